-- The rows that words draw for a problem, and their categories by a model: a word for each row and criterion.
use Rattle.std.specs.Prelude.{ℕ, ◌+◌, ◌*◌, ◌%◌, ℤ, pos, List, [], ◌∷◌, ◌++◌, length, slice_index_or, codes}
use Rattle.std.specs.List.{AllZip}
use Rattle.rand_pcg.specs.Lcg.{Lcg}
use Rattle.problem_core.specs.Grade.{grade_text, IsGrade}
use Rattle.problem_core.specs.Problem.{ProblemValue}
use Rattle.problem_core.specs.declared.criterion.Scale.{Scale}
use Rattle.sorting_rule.specs.Examples.{Example}
use Rattle.sorting_rule.specs.Model.{Model, category}
use Rattle.table_core.specs.Written.{header_fields, record_text}
use Rattle.encoding_rules.specs.Each.{each, listed}
use Rattle.draw_core.specs.Choice.{choice_count, chosen, scale_at}
use Rattle.draw_core.specs.DrawnProblem.{numbered}
use Rattle.draw_core.specs.Words.{word}

-- the grade that a word draws on a scale
abbrev pub drawn_grade : Scale → ℕ → ℤ
drawn_grade scale word = chosen scale (word % choice_count scale)

-- the grade of a row on a criterion, both by their places from 0
abbrev pub row_grade : ProblemValue → List ℕ → ℕ → ℕ → ℤ
row_grade problem words row i =
    drawn_grade (scale_at problem.criteria i) (slice_index_or words (row * length problem.criteria + i) 0)

-- the grades of a row
abbrev pub row_grades : ProblemValue → List ℕ → ℕ → List ℤ
row_grades problem words row = listed (row_grade problem words row) (length problem.criteria)

-- the grades that the next words of a generator draw
abbrev pub next_grades : ProblemValue → Lcg → List ℤ
next_grades problem g = listed (λ i. drawn_grade (scale_at problem.criteria i) (word g i)) (length problem.criteria)

-- a grade of its scale for each criterion
abbrev pub AreGrades : ProblemValue → List ℤ → Type 0
AreGrades problem grades = AllZip (λ criterion grade. IsGrade criterion.scale grade) problem.criteria grades

-- a row as an example: the rule gives its category
abbrev pub drawn_example : ProblemValue → Model → List ℕ → ℕ → Example
drawn_example problem rule words row =
    record { grades = row_grades problem words row; category = category rule (row_grades problem words row) }

-- so many rows as examples
unfoldable pub drawn_examples : ProblemValue → Model → ℕ → List ℕ → List Example
drawn_examples problem rule rows words = listed (drawn_example problem rule words) rows

-- the cells of a row: its grades as texts
abbrev pub cells_of : ProblemValue → List ℤ → List (List ℕ)
cells_of problem grades =
    listed (λ i. grade_text (scale_at problem.criteria i) (slice_index_or grades i (pos 0))) (length problem.criteria)

-- the fields of a row with these grades: a name with the number of the row, from 1; the cells; the name of the category
abbrev pub fields_of : ProblemValue → Model → ℕ → List ℤ → List (List ℕ)
fields_of problem rule row grades =
    numbered (codes "Alternative ") (row + 1)
    ∷ (cells_of problem grades ++ slice_index_or problem.categories (category rule grades) [] ∷ [])

-- the record of a row
abbrev pub drawn_record : ProblemValue → Model → List ℕ → ℕ → List ℕ
drawn_record problem rule words row = record_text (fields_of problem rule row (row_grades problem words row))

-- the text of the table: a header, and so many rows
unfoldable pub drawn_table : ProblemValue → Model → ℕ → List ℕ → List ℕ
drawn_table problem rule rows words =
    record_text (header_fields problem) ++ each (drawn_record problem rule words) rows
