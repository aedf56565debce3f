use Rattle.std.proofs.Common.{◌+◌, ◌<◌, ◌≤◌, length, drop, arith}
use Rattle.model_text_core.proofs.RowTexts.{got-threshold}
use Rattle.written_core.proofs.PutLemmas.{put-none, put-more, put-cut, put-all}
use Rattle.report_core.specs.DescribedModel.{accepted_lines}
use Rattle.report_core.proofs.ModelLemmas.{criterion_lines, accepted_next, accepted_none}
use Rattle.report_core.proofs.model_text.put_accepted.Goals as goal

pub loop-i-init : goal.loop-i-init
loop-i-init c = put-none _ _

pub put_thresholds-requires : goal.put_thresholds-requires
put_thresholds-requires c =
    got-threshold c.args.problem.now.criteria c.args.model.now.profiles c.loop-i.i c.criterion.result.now c.profile.result.now c.requires.grades c.criterion.ensures c.profile.ensures.profile

pub loop-i-preserved : goal.loop-i-preserved
loop-i-preserved c =
    let criteria = c.args.problem.now.criteria in
    let profiles = c.args.model.now.profiles in
    let i = c.loop-i.i in
    let same = c.requires.criteria in
    let within : i < length criteria = omega (arith, c.criteria_count-i-end.ensures.count, c.loop-i-test.true) in
    let within' : i < length profiles = omega (arith, within, same) in
    let next = accepted_next criteria profiles i c.criterion.result.now c.profile.result.now within within' c.criterion.ensures c.profile.ensures.profile in
    let piece = criterion_lines i c.criterion.result.now c.profile.result.now in
    let rest = accepted_lines (i + 1) (drop (i + 1) criteria) (drop (i + 1) profiles) in
    put-more c.args.out.now.items c.loop-i.out.items c.put_thresholds.new.out.items (accepted_lines 0 criteria profiles) (accepted_lines i (drop i criteria) (drop i profiles)) piece rest c.loop-i.invariant next c.in_ok-put_thresholds.ensures

pub returns-in_err-put_thresholds : goal.returns-in_err-put_thresholds
returns-in_err-put_thresholds c =
    let criteria = c.args.problem.now.criteria in
    let profiles = c.args.model.now.profiles in
    let i = c.loop-i.i in
    let same = c.requires.criteria in
    let within : i < length criteria = omega (arith, c.criteria_count-i-end.ensures.count, c.loop-i-test.true) in
    let within' : i < length profiles = omega (arith, within, same) in
    let next = accepted_next criteria profiles i c.criterion.result.now c.profile.result.now within within' c.criterion.ensures c.profile.ensures.profile in
    let piece = criterion_lines i c.criterion.result.now c.profile.result.now in
    let rest = accepted_lines (i + 1) (drop (i + 1) criteria) (drop (i + 1) profiles) in
    put-cut c.args.out.now.items c.loop-i.out.items c.put_thresholds.new.out.items (accepted_lines 0 criteria profiles) (accepted_lines i (drop i criteria) (drop i profiles)) piece rest c.from_residual.result c.from_residual.ensures.0 c.loop-i.invariant next c.in_err-put_thresholds.ensures

pub returns : goal.returns
returns c =
    let criteria = c.args.problem.now.criteria in
    let profiles = c.args.model.now.profiles in
    let i = c.loop-i.i in
    let past : length criteria ≤ i = omega (arith, c.criteria_count-i-end.ensures.count, c.loop-i-test.false) in
    put-all c.args.out.now.items c.loop-i.out.items (accepted_lines 0 criteria profiles) (accepted_lines i (drop i criteria) (drop i profiles)) c.loop-i.invariant (accepted_none criteria profiles i past)
