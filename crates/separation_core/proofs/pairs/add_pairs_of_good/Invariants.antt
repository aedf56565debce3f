use Rattle.std.proofs.Common.{◌+◌, ◌*◌, [], slice_index_or}
use Rattle.separation_core.specs.Plain.{pair_of}
use Rattle.accepted_core.proofs.TakesFacts.{TakesSo}
use Rattle.separation_core.proofs.pairs.add_pairs_of_good.Given as goal

abbrev pub invariant-loop-b : goal.invariant-loop-b
invariant-loop-b l = TakesSo l.fn.formula l.formula (λ b. pair_of (l.first + b * l.n) l.good (slice_index_or l.bads b [])) l.b
