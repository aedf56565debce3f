use Rattle.std.proofs.Common.{◌≡◌, ◌+◌, length}
use Rattle.table_core.specs.Rows.{rows_left}
use Rattle.table_core.specs.Table.{IsTableOf}
use Rattle.report_core.specs.Counts.{AreAtMost, AreCounted}
use Rattle.report_core.proofs.counts.count_rows.Given as goal

abbrev pub invariant-loop-counts : goal.invariant-loop-counts
invariant-loop-counts l = record {
  fits : IsTableOf l.problem l.table;
  counted : AreCounted (rows_left l.problem l.fn.table).0 (rows_left l.problem l.table).0 l.counts;
  few : AreAtMost l.table.number l.counts;
  size : length l.counts.categories.items ≡ length l.problem.categories;
  end : (rows_left l.problem l.fn.table).1 ≡ (rows_left l.problem l.table).1;
  number : l.fn.table.number + length (rows_left l.problem l.fn.table).0 ≡ l.table.number + length (rows_left l.problem l.table).0;
}

abbrev pub decreases-loop-counts : goal.decreases-loop-counts
decreases-loop-counts l = length l.table.left
