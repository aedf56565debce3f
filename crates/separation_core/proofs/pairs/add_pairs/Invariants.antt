use Rattle.std.proofs.Common.{◌+◌, ◌*◌, [], length, slice_index_or}
use Rattle.separation_core.specs.Plain.{pairs_of_good}
use Rattle.accepted_core.proofs.TakesFacts.{TakesSo}
use Rattle.separation_core.proofs.pairs.add_pairs.Given as goal

abbrev pub invariant-loop-a : goal.invariant-loop-a
invariant-loop-a l = TakesSo l.fn.formula l.formula (λ a. pairs_of_good (l.first + a * (length l.bads * l.n)) l.n (slice_index_or l.goods a []) l.bads) l.a
