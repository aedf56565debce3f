use Rattle.std.proofs.Common.{◌≡◌}
use Rattle.encoding_rules.specs.Each.{listed}
use Rattle.draw_core.specs.DrawnProblem.{drawn_criterion}
use Rattle.draw_core.proofs.problem.drawn_criteria.Given as goal

abbrev pub invariant-loop-i : goal.invariant-loop-i
invariant-loop-i l = l.criteria ≡ listed (drawn_criterion l.words) l.i
