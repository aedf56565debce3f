use Rattle.accepted_core.proofs.TakesFacts.{TakesSo}
use Rattle.coalition_core.specs.Plain.{bad_clauses}
use Rattle.literals_core.specs.Formula.{minus}
use Rattle.std.proofs.Common.{[], map, get_or}
use Rattle.coalition_core.proofs.members.add_bads.Given as goal

abbrev pub invariant-loop-b : goal.invariant-loop-b
invariant-loop-b l = TakesSo l.fn.formula l.formula (λ b. bad_clauses l.first (map minus (get_or l.rows b []))) l.b
