use Rattle.std.proofs.lemmas.List.{get_or_default}
use Rattle.model_text_core.specs.Parts.{root_text}
use Rattle.model_text_core.proofs.PutFacts.{more_put, cut_put}
use Rattle.model_text_core.proofs.roots.put_roots.Goals as goal

pub returns-in_err-put_root : goal.returns-in_err-put_root
returns-in_err-put_root c =
    cut_put (root_text c.args.count) c.args.roots.now c.loop-root.root-index _ _ _ _ c.from_residual.result c.from_residual.ensures.0 c.loop-root-test.true (get_or_default c.args.roots.now c.loop-root.root-index _ 0 c.loop-root-test.true) c.loop-root.invariant c.in_err-put_root.ensures

pub loop-root-preserved : goal.loop-root-preserved
loop-root-preserved c =
    more_put (root_text c.args.count) c.args.roots.now c.loop-root.root-index _ _ _ _ c.loop-root-test.true (get_or_default c.args.roots.now c.loop-root.root-index _ 0 c.loop-root-test.true) c.loop-root.invariant c.in_ok-put_root.ensures
