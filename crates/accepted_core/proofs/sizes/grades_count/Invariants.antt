use Rattle.std.proofs.Common.{◌≡◌, ◌*◌, ◌^◌, ◌≤◌}
use Rattle.encoding_rules.specs.Each.{total}
use Rattle.accepted_core.specs.Sizes.{count_in}
use Rattle.accepted_core.proofs.sizes.grades_count.Given as goal

abbrev pub invariant-loop-i : goal.invariant-loop-i
invariant-loop-i l = (l.sum ≡ total (count_in l.ranks.grades) l.i) × (l.sum ≤ l.i * 2 ^ 32)
