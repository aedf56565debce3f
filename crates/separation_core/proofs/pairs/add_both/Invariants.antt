use Rattle.separation_core.specs.Plain.{both_of}
use Rattle.accepted_core.proofs.TakesFacts.{TakesSo}
use Rattle.separation_core.proofs.pairs.add_both.Given as goal

abbrev pub invariant-loop-i : goal.invariant-loop-i
invariant-loop-i l = TakesSo l.fn.formula l.formula (both_of l.first l.good l.bad) l.i
