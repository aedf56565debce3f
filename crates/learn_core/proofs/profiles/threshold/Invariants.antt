use Rattle.std.proofs.Common.{◌≡◌, ◌+◌, [], drop, get_or}
use Rattle.encoding_rules.specs.Rebuilt.{first_passing}
use Rattle.search_core.specs.Values.{value_at}
use Rattle.learn_core.proofs.profiles.threshold.Given as goal

abbrev pub invariant-loop-k : goal.invariant-loop-k
invariant-loop-k l = first_passing (λ k. value_at l.values (l.first + k)) 0 (get_or l.ranks.grades l.i []) ≡ first_passing (λ k. value_at l.values (l.first + k)) l.k (drop l.k (get_or l.ranks.grades l.i []))
