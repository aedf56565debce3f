use Rattle.std.proofs.Common.{◌≡◌, ◌+◌, ◌*◌, slice_index_or}
use Rattle.encoding_rules.specs.Each.{listed, total}
use Rattle.accepted_core.proofs.numbers.firsts_of.Given as goal

abbrev pub invariant-loop-i : goal.invariant-loop-i
invariant-loop-i l = (l.firsts.items ≡ listed (λ i. 1 + l.boundaries * total (λ k. slice_index_or l.counts k 0) i) l.i) × (l.first ≡ 1 + l.boundaries * total (λ k. slice_index_or l.counts k 0) l.i)
