use Rattle.std.proofs.Common.{◌≡◌}
use Rattle.std.specs.Prelude.{replicate}
use Rattle.model_core.specs.declared.model.Coalitions.TheVariants.{Roots}
use Rattle.learn_core.proofs.rebuilding.same_roots.Given as goal

abbrev pub invariant-loop-h : goal.invariant-loop-h
invariant-loop-h l = l.coalitions.items ≡ replicate l.h (Roots l.roots)
