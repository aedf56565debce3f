use Rattle.std.proofs.Common.{◌≡◌}
use Rattle.encoding_rules.specs.Each.{listed}
use Rattle.accepted_core.specs.Sizes.{count_in}
use Rattle.accepted_core.proofs.numbers.counts_of.Given as goal

abbrev pub invariant-loop-i : goal.invariant-loop-i
invariant-loop-i l = l.counts.items ≡ listed (count_in l.ranks.grades) l.i
