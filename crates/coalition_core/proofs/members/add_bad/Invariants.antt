use Rattle.accepted_core.proofs.TakesFacts.{TakesSo}
use Rattle.coalition_core.specs.Plain.{set_clause}
use Rattle.literals_core.specs.Formula.{minus}
use Rattle.std.proofs.Common.{◌+◌, [], ◌∷◌}
use Rattle.coalition_core.proofs.members.add_bad.Given as goal

abbrev pub invariant-loop-set : goal.invariant-loop-set
invariant-loop-set l = TakesSo l.fn.formula l.formula (λ set. set_clause l.literals set (minus (l.first + set)) ∷ []) l.set
