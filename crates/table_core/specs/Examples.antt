-- The examples of a table: the rows that have a category.
use Rattle.std.specs.Prelude.{◌<◌, ℕ, ℤ, List, [], ◌∷◌, length, All, Option, None, Some, Result, Ok, Err}
use Rattle.std.specs.Prelude.{slice_index_or}
use Rattle.std.specs.List.{filter_map, AllZip}
use Rattle.problem_core.specs.Grade.{IsGrade}
use Rattle.problem_core.specs.Problem.{ProblemValue}
use Rattle.sorting_rule.specs.Examples.{Example}
use Rattle.table_core.specs.Rows.{rows_left}
use Rattle.table_core.specs.Table.{TableState}
use Rattle.table_core.specs.declared.fault.RowFault.{RowFault}
use Rattle.table_core.specs.declared.row.Row.{Row}

-- examples by their grades and their categories
abbrev pub examples_of : List (List ℤ) → List ℕ → List Example
examples_of [] categories = []
examples_of (grades ∷ rows) [] = []
examples_of (grades ∷ rows) (category ∷ categories) =
    record { grades = grades; category = category } ∷ examples_of rows categories

abbrev pub no_example : Example
no_example = record { grades = []; category = 0 }

-- the example at a place
abbrev pub example_at : List Example → ℕ → Example
example_at examples k = slice_index_or examples k no_example

-- the example of some grades, if there is a category
abbrev pub classified : List ℤ → Option ℕ → Option Example
classified grades None = None
classified grades (Some category) = Some (record { grades = grades; category = category })

-- the examples among rows
unfoldable pub classified_rows : List Row → List Example
classified_rows rows = filter_map (λ row. classified row.grades row.category) rows

-- unless a row is refused
abbrev pub unless_fault : List Row → Option RowFault → Result (List Example) RowFault
unless_fault rows None = Ok (classified_rows rows)
unless_fault rows (Some fault) = Err fault

-- what a table has left: its examples, or the fault of its first refused row
abbrev pub examples_left : ProblemValue → TableState → Result (List Example) RowFault
examples_left problem table = unless_fault (rows_left problem table).0 (rows_left problem table).1

-- Examples that belong to a problem have a grade of the scale for each criterion, and one of its categories.
pub record BelongTo (problem : ProblemValue) (examples : List Example) : Type 0 where
  pub grades : All (λ e. AllZip (λ criterion grade. IsGrade criterion.scale grade) problem.criteria e.grades) examples
  pub categories : All (λ e. e.category < length problem.categories) examples
