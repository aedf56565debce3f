-- Tasks whose unknowns of what is accepted are few.
use Rattle.std.specs.Prelude.{◌≤◌, length}
use Rattle.encoding_rules.specs.Task.{Task, IsTask, criteria, boundaries}
use Rattle.encoding_rules.specs.Unknowns.{accepted_count}

-- a task whose criteria, boundaries, examples and accepted grades are few
pub record IsFew (task : Task) : Type 0 where
  pub fits : IsTask task
  pub some_criteria : 1 ≤ criteria task
  pub few_criteria : criteria task ≤ 16
  pub few_boundaries : boundaries task ≤ 9
  pub few_examples : length task.examples ≤ 4000000000
  pub few_accepted : accepted_count task ≤ 33554576
