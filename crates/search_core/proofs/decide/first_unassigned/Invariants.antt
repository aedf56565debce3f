use Rattle.search_core.specs.State.{AreAssigned}
use Rattle.search_core.proofs.decide.first_unassigned.Given as goal

abbrev pub invariant-loop-variable : goal.invariant-loop-variable
invariant-loop-variable l = AreAssigned l.trail l.variable
