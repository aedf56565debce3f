use Rattle.std.proofs.Common.{◌≡◌, ◌<◌, ◌^◌, length}
use Rattle.std.specs.List.{All}
use Rattle.encoding_rules.specs.Each.{each}
use Rattle.learn_core.specs.Numbers.{own_in}
use Rattle.learn_core.proofs.sets.own_sets.Given as goal

abbrev pub invariant-loop-row : goal.invariant-loop-row
invariant-loop-row l = (l.sets.items ≡ each (own_in l.values l.firsts l.ranks l.examples) l.row) × All (λ set. set < 2 ^ length l.firsts) l.sets.items
