use Rattle.accepted_core.proofs.TakesFacts.{TakesSo}
use Rattle.coalition_core.specs.Plain.{larger_at}
use Rattle.coalition_core.proofs.larger.add_larger_of_set.Given as goal

abbrev pub invariant-loop-i : goal.invariant-loop-i
invariant-loop-i l = TakesSo l.fn.formula l.formula (larger_at l.first l.set) l.i
