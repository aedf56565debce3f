use Rattle.std.proofs.Common.{◌≡◌, ◌+◌, ◌≤◌, length}
use Rattle.edge_core.proofs.Sent.{Sent}
use Rattle.model_core.specs.Model.{rule_of}
use Rattle.table_core.specs.Rows.{rows_left}
use Rattle.table_core.specs.Table.{IsTableOf}
use Rattle.report_core.specs.Classified.{rows_text}
use Rattle.report_core.proofs.pieces.write_rows.Given as goal

abbrev pub invariant-loop : goal.invariant-loop
invariant-loop g l = record {
  fits : IsTableOf l.problem l.table;
  sent : Sent (g.O.Sink.state l.initial.sink).written (g.O.Sink.state l.sink).written
      (rows_text l.problem (rule_of l.problem l.model) l.fn.table) (rows_text l.problem (rule_of l.problem l.model) l.table);
  end : (rows_left l.problem l.fn.table).1 ≡ (rows_left l.problem l.table).1;
  count : l.fn.table.number + length (rows_left l.problem l.fn.table).0 ≡ l.table.number + length (rows_left l.problem l.table).0;
  later : (g.O.Sink.state l.initial.sink).faults ≤ (g.O.Sink.state l.sink).faults;
}

abbrev pub decreases-loop : goal.decreases-loop
decreases-loop g l = length l.table.left
