use Rattle.std.proofs.Common.{sym}
use Rattle.model_text_core.specs.Parts.{item_text}
use Rattle.model_text_core.proofs.PutFacts.{more_put, cut_put}
use Rattle.model_text_core.proofs.coalitions.put_each.Goals as goal

pub returns-in_err-put_item : goal.returns-in_err-put_item
returns-in_err-put_item c =
    cut_put (item_text c.args.count) c.args.rows.now c.loop-coalitions.coalitions-index _ _ _ _ c.from_residual.result c.from_residual.ensures.0 c.loop-coalitions-test.true (sym c.coalitions-item.is) c.loop-coalitions.invariant c.in_err-put_item.ensures

pub loop-coalitions-preserved : goal.loop-coalitions-preserved
loop-coalitions-preserved c =
    more_put (item_text c.args.count) c.args.rows.now c.loop-coalitions.coalitions-index _ _ _ _ c.loop-coalitions-test.true (sym c.coalitions-item.is) c.loop-coalitions.invariant c.in_ok-put_item.ensures
