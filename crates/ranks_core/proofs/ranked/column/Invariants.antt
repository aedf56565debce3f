use Rattle.std.proofs.Common.{◌≡◌, map, take}
use Rattle.sorting_rule.specs.Rebuilt.{grade_on}
use Rattle.ranks_core.proofs.ranked.column.Given as goal

abbrev pub invariant-loop-row : goal.invariant-loop-row
invariant-loop-row l = l.grades.items ≡ map (grade_on l.i) (take l.row l.examples)
