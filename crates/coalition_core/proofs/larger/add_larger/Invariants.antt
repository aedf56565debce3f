use Rattle.accepted_core.proofs.TakesFacts.{TakesSo}
use Rattle.coalition_core.specs.Plain.{larger_of_set}
use Rattle.coalition_core.proofs.larger.add_larger.Given as goal

abbrev pub invariant-loop-set : goal.invariant-loop-set
invariant-loop-set l = TakesSo l.fn.formula l.formula (larger_of_set l.first l.n) l.set
