-- The table that classifying writes.
use Rattle.std.specs.Prelude.{ℕ, ℤ, List, [], ◌++◌, slice_index_or}
use Rattle.std.specs.List.{flat_map}
use Rattle.problem_core.specs.Problem.{ProblemValue}
use Rattle.sorting_rule.specs.Model.{Model, category}
use Rattle.table_core.specs.Rows.{rows_left}
use Rattle.table_core.specs.Table.{TableState}
use Rattle.table_core.specs.Written.{header_fields, record_text, row_fields}
use Rattle.table_core.specs.declared.row.Row.{Row}

-- the name of the category that the sorting rule gives these grades
abbrev pub category_name : ProblemValue → Model → List ℤ → List ℕ
category_name problem model grades = slice_index_or problem.categories (category model grades) []

-- a row's record: its name and cells as read, and the name of its category
abbrev pub classified_record : ProblemValue → Model → Row → List ℕ
classified_record problem model row = record_text (row_fields row (category_name problem model row.grades))

-- a record for each row that a table has left before the first that is refused
abbrev pub rows_text : ProblemValue → Model → TableState → List ℕ
rows_text problem model table = flat_map (classified_record problem model) (rows_left problem table).0

-- the header's record, and then those of the rows
abbrev pub classified_text : ProblemValue → Model → TableState → List ℕ
classified_text problem model table = record_text (header_fields problem) ++ rows_text problem model table
