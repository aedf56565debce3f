use Rattle.std.proofs.Common.{◌≡◌, map, take}
use Rattle.problem_core.specs.Grade.{direction_of}
use Rattle.sorting_rule.specs.Rebuilt.{grade_on}
use Rattle.encoding_rules.specs.Ranks.{place_of}
use Rattle.ranks_core.proofs.ranked.places_of.Given as goal

abbrev pub invariant-loop-row : goal.invariant-loop-row
invariant-loop-row l = l.places.items ≡ map (λ e. place_of (direction_of l.scale) l.ranked (grade_on l.i e)) (take l.row l.examples)
