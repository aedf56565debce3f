use Rattle.std.proofs.Common.{◌≡◌}
use Rattle.encoding_rules.specs.Each.{listed}
use Rattle.accepted_core.specs.Rows.{unknown_at}
use Rattle.accepted_core.proofs.numbers.fill_row.Given as goal

abbrev pub invariant-loop-i : goal.invariant-loop-i
invariant-loop-i l = l.own.items ≡ listed (unknown_at l.counts l.firsts l.ranks.places l.place l.row) l.i
