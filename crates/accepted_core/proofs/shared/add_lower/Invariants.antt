use Rattle.std.proofs.Common.{slice_index_or}
use Rattle.accepted_core.specs.Plain.{lower_rows}
use Rattle.accepted_core.proofs.TakesFacts.{TakesSo}
use Rattle.accepted_core.proofs.shared.add_lower.Given as goal

abbrev pub invariant-loop-i : goal.invariant-loop-i
invariant-loop-i l = TakesSo l.fn.formula l.formula (λ i. lower_rows (slice_index_or l.firsts i 0) (slice_index_or l.counts i 0) l.boundaries) l.i
