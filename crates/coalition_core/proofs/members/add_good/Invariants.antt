use Rattle.accepted_core.proofs.TakesFacts.{TakesSo}
use Rattle.coalition_core.specs.Plain.{set_clause}
use Rattle.literals_core.specs.Formula.{plus}
use Rattle.std.proofs.Common.{◌+◌, ◌-◌, ◌^◌, [], ◌∷◌, length}
use Rattle.coalition_core.proofs.members.add_good.Given as goal

abbrev pub invariant-loop-set : goal.invariant-loop-set
invariant-loop-set l = TakesSo l.fn.formula l.formula (λ set. set_clause l.literals set (plus (l.first + (2 ^ length l.literals - 1 - set))) ∷ []) l.set
