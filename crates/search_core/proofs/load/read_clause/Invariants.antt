use Rattle.std.proofs.Common.{◌≡◌, map, take}
use Rattle.search_core.specs.Inner.{outer}
use Rattle.search_core.proofs.load.read_clause.Given as goal

abbrev pub invariant-loop-literal : goal.invariant-loop-literal
invariant-loop-literal l = map outer l.literals.items ≡ take l.literal-index l.clause
