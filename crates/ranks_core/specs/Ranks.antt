-- The ranks of examples of a problem.
use Rattle.std.specs.Prelude.{◌≡◌, ℕ, ℤ, List, length, map}
use Rattle.problem_core.specs.Grade.{direction_of}
use Rattle.problem_core.specs.Problem.{ProblemValue}
use Rattle.sorting_rule.specs.Examples.{Example}
use Rattle.encoding_rules.specs.Each.{listed}
use Rattle.encoding_rules.specs.Task.{Task, criteria}
use Rattle.encoding_rules.specs.Ranks.{ranked, rank}

-- what is to be learned from examples of a problem
abbrev pub task_of : ProblemValue → List Example → Task
task_of problem examples =
    record {
      directions = map (λ criterion. direction_of criterion.scale) problem.criteria;
      categories = length problem.categories;
      examples = examples;
    }

-- ranks are seen as each criterion's ranked grades, and the places of the examples' grades among them
pub record RanksValue : Type 0 where
  pub grades : List (List ℤ)
  pub places : List (List ℕ)

pub record AreRanks (task : Task) (r : RanksValue) : Type 0 where
  pub grades_are : r.grades ≡ listed (ranked task) (criteria task)
  pub places_are : r.places ≡ listed (λ i. map (rank task i) task.examples) (criteria task)
