use Rattle.std.proofs.Common.{◌≡◌, map, take}
use Rattle.search_core.specs.Inner.{outer}
use Rattle.search_core.proofs.learn.outer_literals.Given as goal

abbrev pub invariant-loop-literal : goal.invariant-loop-literal
invariant-loop-literal l = l.literals.items ≡ map outer (take l.literal-index l.clause)
