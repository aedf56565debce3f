use Rattle.std.proofs.Common.{◌≡◌}
use Rattle.encoding_rules.specs.Each.{listed}
use Rattle.draw_core.specs.DrawnModel.{drawn_weight}
use Rattle.draw_core.proofs.model.drawn_weights.Given as goal

abbrev pub invariant-loop-i : goal.invariant-loop-i
invariant-loop-i l = l.weights ≡ listed (drawn_weight l.problem l.words) l.i
