use Rattle.std.proofs.Common.{◌≡◌, ◌≤◌, take}
use Rattle.model_core.specs.Model.{rule_of}
use Rattle.report_core.specs.Restored.{restored_count}
use Rattle.report_core.proofs.restored.accuracy.Given as goal

abbrev pub invariant-loop-row : goal.invariant-loop-row
invariant-loop-row l = record {
  count : l.restored ≡ restored_count (rule_of l.problem l.model) (take l.row l.examples);
  few : l.restored ≤ l.row;
}
