use Rattle.std.proofs.Common.{◌<◌, ◌≤◌, List, length, map, codes, arith, subst, sym}
use Rattle.written_core.specs.Document.{Scalar}
use Rattle.written_core.proofs.PutLemmas.{put-none, put-more, put-last, put-cut, puts-as, first-cut}
use Rattle.model_core.specs.Model.{IsThreshold}
use Rattle.written_core.specs.Parts.{left_text}
use Rattle.written_core.proofs.FlowTexts.{flow-left, flow-put, left-item, left-end}
use Rattle.model_text_core.specs.ModelText.{threshold_scalar}
use Rattle.model_text_core.proofs.thresholds.put_thresholds.Goals as goal
use Rattle.model_text_core.proofs.PutFacts.{drop_here}

pub returns-in_err-put_text : goal.returns-in_err-put_text
returns-in_err-put_text c =
    let ss : List Scalar = map (threshold_scalar c.args.criterion.now.scale) c.args.thresholds.now in
    puts-as _ _ _ _ _ (flow-left ss) (first-cut _ _ (codes "[") (left_text 0 ss) c.from_residual.result c.from_residual.ensures.0 c.in_err-put_text.ensures)

pub loop-i-init : goal.loop-i-init
loop-i-init c = put-none _ _

pub put_item-requires : goal.put_item-requires
put_item-requires c =
    let within : c.loop-i.i < length c.args.thresholds.now = omega arith in
    subst (IsThreshold c.args.criterion.now.scale) (sym c.index-thresholds-i.is) (c.requires c.loop-i.i _ within)

pub returns-in_err-put_item : goal.returns-in_err-put_item
returns-in_err-put_item c =
    let within : c.loop-i.i < length c.args.thresholds.now = omega arith in
    let r = c.from_residual-in_err-put_item.result in
    flow-put _ _ _ (map (threshold_scalar c.args.criterion.now.scale) c.args.thresholds.now) r c.in_ok-put_text.ensures
    (put-cut _ _ _ _ _ _ _ r c.from_residual-in_err-put_item.ensures.0 c.loop-i.invariant (left-item (threshold_scalar c.args.criterion.now.scale) c.args.thresholds.now c.loop-i.i _ (drop_here c.args.thresholds.now c.loop-i.i _ within c.index-thresholds-i.is)) c.in_err-put_item.ensures)

pub loop-i-preserved : goal.loop-i-preserved
loop-i-preserved c =
    let within : c.loop-i.i < length c.args.thresholds.now = omega arith in
    put-more _ _ _ _ _ _ _ c.loop-i.invariant (left-item (threshold_scalar c.args.criterion.now.scale) c.args.thresholds.now c.loop-i.i _ (drop_here c.args.thresholds.now c.loop-i.i _ within c.index-thresholds-i.is)) c.in_ok-put_item.ensures

pub returns : goal.returns
returns c =
    let past : length c.args.thresholds.now ≤ c.loop-i.i = omega arith in
    flow-put _ _ _ (map (threshold_scalar c.args.criterion.now.scale) c.args.thresholds.now) c.put_text-2.result c.in_ok-put_text.ensures
    (put-last _ _ _ _ _ c.put_text-2.result c.loop-i.invariant (puts-as _ _ c.put_text-2.result _ _ (left-end (threshold_scalar c.args.criterion.now.scale) c.args.thresholds.now c.loop-i.i past) c.put_text-2.ensures))
