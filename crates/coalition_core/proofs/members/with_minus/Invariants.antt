use Rattle.literals_core.specs.Formula.{minus}
use Rattle.std.proofs.Common.{◌≡◌, map, take}
use Rattle.coalition_core.proofs.members.with_minus.Given as goal

abbrev pub invariant-loop-variable : goal.invariant-loop-variable
invariant-loop-variable l = l.literals.items ≡ map minus (take l.variable-index l.row)
