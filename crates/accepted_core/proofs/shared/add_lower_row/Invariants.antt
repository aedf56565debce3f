use Rattle.std.proofs.Common.{◌+◌, [], ◌∷◌}
use Rattle.literals_core.specs.Formula.{plus, minus}
use Rattle.accepted_core.proofs.TakesFacts.{TakesSo}
use Rattle.accepted_core.proofs.shared.add_lower_row.Given as goal

abbrev pub invariant-loop-k : goal.invariant-loop-k
invariant-loop-k l = TakesSo l.fn.formula l.formula (λ k. (minus (l.first + l.count + k) ∷ plus (l.first + k) ∷ []) ∷ []) l.k
