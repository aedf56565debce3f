use Rattle.std.proofs.Common.{◌<◌, ◌≤◌, List, length, map, codes, arith}
use Rattle.written_core.specs.Document.{Scalar}
use Rattle.written_core.proofs.PutLemmas.{put-none, put-more, put-last, put-cut, puts-as, first-cut}
use Rattle.written_core.specs.Parts.{left_text}
use Rattle.written_core.proofs.FlowTexts.{flow-left, flow-put, left-item, left-end}
use Rattle.model_text_core.specs.ModelText.{weight_scalar}
use Rattle.model_text_core.proofs.weights.put_weights.Goals as goal
use Rattle.model_text_core.proofs.PutFacts.{drop_here}

pub returns-in_err-put_text : goal.returns-in_err-put_text
returns-in_err-put_text c =
    let ss : List Scalar = map weight_scalar c.args.weights.now in
    puts-as _ _ _ _ _ (flow-left ss) (first-cut _ _ (codes "[") (left_text 0 ss) c.from_residual.result c.from_residual.ensures.0 c.in_err-put_text.ensures)

pub loop-i-init : goal.loop-i-init
loop-i-init c = put-none _ _

pub returns-in_err-put_item : goal.returns-in_err-put_item
returns-in_err-put_item c =
    let within : c.loop-i.i < length c.args.weights.now = omega arith in
    let r = c.from_residual-in_err-put_item.result in
    flow-put _ _ _ (map weight_scalar c.args.weights.now) r c.in_ok-put_text.ensures
    (put-cut _ _ _ _ _ _ _ r c.from_residual-in_err-put_item.ensures.0 c.loop-i.invariant (left-item weight_scalar c.args.weights.now c.loop-i.i _ (drop_here c.args.weights.now c.loop-i.i _ within c.index-weights-i.is)) c.in_err-put_item.ensures)

pub loop-i-preserved : goal.loop-i-preserved
loop-i-preserved c =
    let within : c.loop-i.i < length c.args.weights.now = omega arith in
    put-more _ _ _ _ _ _ _ c.loop-i.invariant (left-item weight_scalar c.args.weights.now c.loop-i.i _ (drop_here c.args.weights.now c.loop-i.i _ within c.index-weights-i.is)) c.in_ok-put_item.ensures

pub returns : goal.returns
returns c =
    let past : length c.args.weights.now ≤ c.loop-i.i = omega arith in
    flow-put _ _ _ (map weight_scalar c.args.weights.now) c.put_text-2.result c.in_ok-put_text.ensures
    (put-last _ _ _ _ _ c.put_text-2.result c.loop-i.invariant (puts-as _ _ c.put_text-2.result _ _ (left-end weight_scalar c.args.weights.now c.loop-i.i past) c.put_text-2.ensures))
