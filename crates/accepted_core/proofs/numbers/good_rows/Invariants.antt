use Rattle.std.proofs.Common.{◌≡◌}
use Rattle.encoding_rules.specs.Each.{each}
use Rattle.accepted_core.specs.Rows.{good_rows_at}
use Rattle.accepted_core.proofs.numbers.good_rows.Given as goal

abbrev pub invariant-loop-row : goal.invariant-loop-row
invariant-loop-row l = l.rows ≡ each (good_rows_at l.counts l.firsts l.ranks.places l.examples) l.row
