use Rattle.std.proofs.Common.{◌<◌, ◌≤◌, length}
use Rattle.model_core.specs.Model.{rule_of}
use Rattle.table_core.specs.Table.{IsTableOf}
use Rattle.report_core.specs.Pieces.{TakesRows}
use Rattle.report_core.proofs.pieces.gather.Given as goal

abbrev pub invariant-loop-table : goal.invariant-loop-table
invariant-loop-table l = record {
  fits : IsTableOf l.problem l.table;
  takes : TakesRows l.problem (rule_of l.problem l.model) l.fn.table l.table l.piece.items;
  few : length l.table.left ≤ length l.fn.table.left;
  less : 0 < length l.piece.items → length l.table.left < length l.fn.table.left;
}

abbrev pub decreases-loop-table : goal.decreases-loop-table
decreases-loop-table l = length l.table.left
