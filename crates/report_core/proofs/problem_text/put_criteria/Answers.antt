use Rattle.std.proofs.Common.{◌≡◌, ◌+◌, ◌<◌, ◌≤◌, Some, length, drop, arith}
use Rattle.std.specs.Prelude.{slice_get}
use Rattle.written_core.proofs.PutLemmas.{put-none, put-more, put-cut, put-all}
use Rattle.report_core.specs.Text.{numbered}
use Rattle.report_core.proofs.TextLemmas.{numbered_next, numbered_none}
use Rattle.report_core.specs.Described.{criterion_line}
use Rattle.report_core.proofs.problem_text.put_criteria.Goals as goal

pub loop-i-init : goal.loop-i-init
loop-i-init c = put-none _ _

pub loop-i-preserved : goal.loop-i-preserved
loop-i-preserved c =
    let items = c.args.problem.now.criteria in
    let k = c.loop-i.i in
    let within : k < length items = omega (arith, c.criteria_count-i-end.ensures.count, c.loop-i-test.true) in
    let is : slice_get items k ≡ Some (c.criterion.result.now) = c.criterion.ensures in
    let next = numbered_next criterion_line items k (c.criterion.result.now) within is in
    put-more c.args.out.now.items c.loop-i.out.items c.put_criterion.new.out.items (numbered criterion_line 0 items) (numbered criterion_line k (drop k items)) (criterion_line k (c.criterion.result.now)) (numbered criterion_line (k + 1) (drop (k + 1) items)) c.loop-i.invariant next c.in_ok-put_criterion.ensures

pub returns-in_err-put_criterion : goal.returns-in_err-put_criterion
returns-in_err-put_criterion c =
    let items = c.args.problem.now.criteria in
    let k = c.loop-i.i in
    let within : k < length items = omega (arith, c.criteria_count-i-end.ensures.count, c.loop-i-test.true) in
    let is : slice_get items k ≡ Some (c.criterion.result.now) = c.criterion.ensures in
    let next = numbered_next criterion_line items k (c.criterion.result.now) within is in
    put-cut c.args.out.now.items c.loop-i.out.items c.put_criterion.new.out.items (numbered criterion_line 0 items) (numbered criterion_line k (drop k items)) (criterion_line k (c.criterion.result.now)) (numbered criterion_line (k + 1) (drop (k + 1) items)) c.from_residual.result c.from_residual.ensures.0 c.loop-i.invariant next c.in_err-put_criterion.ensures

pub returns : goal.returns
returns c =
    let items = c.args.problem.now.criteria in
    let k = c.loop-i.i in
    let past : length items ≤ k = omega (arith, c.criteria_count-i-end.ensures.count, c.loop-i-test.false) in
    put-all c.args.out.now.items c.loop-i.out.items (numbered criterion_line 0 items) (numbered criterion_line k (drop k items)) c.loop-i.invariant (numbered_none criterion_line items k past)
