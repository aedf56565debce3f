use Rattle.accepted_core.proofs.TakesFacts.{TakesSo}
use Rattle.coalition_core.specs.Plain.{good_clauses}
use Rattle.literals_core.specs.Formula.{plus}
use Rattle.std.proofs.Common.{[], map, get_or}
use Rattle.coalition_core.proofs.members.add_goods.Given as goal

abbrev pub invariant-loop-a : goal.invariant-loop-a
invariant-loop-a l = TakesSo l.fn.formula l.formula (λ a. good_clauses l.first (map plus (get_or l.rows a []))) l.a
