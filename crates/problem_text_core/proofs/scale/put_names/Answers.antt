use Rattle.std.proofs.Common.{◌≤◌, List, length, map, codes, arith}
use Rattle.written_core.specs.Document.{Scalar, Text}
use Rattle.written_core.proofs.PutLemmas.{put-none, put-more, put-last, put-cut, puts-as, first-cut, drop_got}
use Rattle.written_core.specs.Parts.{left_text}
use Rattle.written_core.proofs.FlowTexts.{flow-left, flow-put, left-item, left-end}
use Rattle.problem_text_core.proofs.scale.put_names.Goals as goal

pub returns-in_err-put_text-clause-text : goal.returns-in_err-put_text-clause-text
returns-in_err-put_text-clause-text c =
    let ss : List Scalar = map Text c.args.names.now in
    puts-as _ _ _ _ _ (flow-left ss) (first-cut _ _ (codes "[") (left_text 0 ss) c.from_residual.result c.from_residual.ensures.0 c.in_err-put_text.ensures)

pub loop-place-init : goal.loop-place-init
loop-place-init c = put-none _ _

pub returns-in_err-put_name-clause-text : goal.returns-in_err-put_name-clause-text
returns-in_err-put_name-clause-text c =
    let r = c.from_residual-in_err-put_name.result in
    flow-put _ _ _ (map Text c.args.names.now) r c.in_ok-put_text.ensures
    (put-cut _ _ _ _ _ _ _ r c.from_residual-in_err-put_name.ensures.0 c.loop-place.invariant (left-item (λ t. Text t) c.args.names.now c.loop-place.place c.get.result.now (drop_got c.args.names.now c.loop-place.place c.get.result.now c.get.ensures)) c.in_err-put_name.ensures)

pub loop-place-preserved : goal.loop-place-preserved
loop-place-preserved c =
    put-more _ _ _ _ _ _ _ c.loop-place.invariant (left-item (λ t. Text t) c.args.names.now c.loop-place.place c.get.result.now (drop_got c.args.names.now c.loop-place.place c.get.result.now c.get.ensures)) c.in_ok-put_name.ensures

pub returns-clause-text : goal.returns-clause-text
returns-clause-text c =
    let past : length c.args.names.now ≤ c.loop-place.place = omega (arith, c.len-place-end.ensures.count, c.loop-place-test.false) in
    let r = c.put_text-2.result in
    flow-put _ _ _ (map Text c.args.names.now) r c.in_ok-put_text.ensures
    (put-last _ _ _ _ _ r c.loop-place.invariant (puts-as _ _ r _ _ (left-end (λ t. Text t) c.args.names.now c.loop-place.place past) c.put_text-2.ensures))
