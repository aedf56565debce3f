use Rattle.std.proofs.Common.{sym}
use Rattle.model_text_core.specs.Parts.{alias_text}
use Rattle.model_text_core.proofs.PutFacts.{more_put, cut_put}
use Rattle.model_text_core.proofs.coalitions.put_aliases.Goals as goal

pub returns-in_err-put_text : goal.returns-in_err-put_text
returns-in_err-put_text c =
    cut_put alias_text c.args.rows.now c.loop.index _ _ _ _ c.from_residual.result c.from_residual.ensures.0 c.loop-test.true (sym c.loop-item.is) c.loop.invariant c.in_err-put_text.ensures

pub loop-preserved : goal.loop-preserved
loop-preserved c =
    more_put alias_text c.args.rows.now c.loop.index _ _ _ _ c.loop-test.true (sym c.loop-item.is) c.loop.invariant c.in_ok-put_text.ensures
