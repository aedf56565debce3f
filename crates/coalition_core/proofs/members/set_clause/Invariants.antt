use Rattle.encoding_rules.specs.Coalitions.{has}
use Rattle.encoding_rules.specs.Each.{each}
use Rattle.std.proofs.Common.{◌≡◌, [], ◌∷◌, get_or, if◌then◌else◌}
use Rattle.coalition_core.proofs.members.set_clause.Given as goal

abbrev pub invariant-loop-i : goal.invariant-loop-i
invariant-loop-i l = l.clause.items ≡ each (λ i. if has l.set i then get_or l.literals i 0 ∷ [] else []) l.i
