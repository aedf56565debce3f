use Rattle.std.proofs.Common.{◌≡◌}
use Rattle.std.specs.Prelude.{replicate}
use Rattle.model_core.specs.declared.model.Coalitions.TheVariants.{Weights}
use Rattle.draw_core.specs.DrawnModel.{drawn_weights}
use Rattle.draw_core.proofs.model.drawn_coalitions.Given as goal

abbrev pub invariant-loop : goal.invariant-loop
invariant-loop l = l.coalitions.items ≡ replicate l.counter (Weights (drawn_weights l.problem l.words))
