-- Descriptions in plain text, line by line.
use Rattle.std.specs.Prelude.{◌≡◌, ◌⊎◌, IfOk, IfErr, ℕ, Bool, true, false, List, [], ◌++◌, length, map, codes, Option}
use Rattle.std.specs.Prelude.{None, Some, Result, Ok, Err}
use Rattle.std.specs.List.{range_with_len}
use Rattle.fixed_core.specs.Spelling.{spelling}
use Rattle.lists_core.specs.Puts.{Puts}
use Rattle.problem_core.specs.Problem.{ProblemValue}
use Rattle.problem_core.specs.declared.criterion.Bounds.{Bounds}
use Rattle.problem_core.specs.declared.criterion.Criterion.{Criterion}
use Rattle.problem_core.specs.declared.criterion.Scale.{Scale}
use Rattle.problem_core.specs.declared.criterion.Scale.TheVariants.{Rising, Falling, Named}
use Rattle.table_core.specs.Rows.{rows_left}
use Rattle.table_core.specs.Table.{TableState}
use Rattle.table_core.specs.declared.fault.RowFault.{RowFault}
use Rattle.table_core.specs.declared.fault.RowFault.TheVariants as fault
use Rattle.table_core.specs.declared.row.Row.{Row}
use Rattle.yaml_tokens.specs.Written.{quoted_text}
use Rattle.report_core.specs.Counts.{classified_count, category_count}
use Rattle.report_core.specs.Text.{counted, line_end, listed, numbered}

-- the type of a scale of numbers
abbrev pub type_word : Bool → List ℕ
type_word true = codes "integer"
type_word false = codes "real"

-- a scale of numbers: its type, its direction, its bounds
abbrev pub numbers_text : List ℕ → Bounds → List ℕ
numbers_text direction bounds =
    type_word bounds.whole ++ (direction ++ (spelling bounds.least ++ (codes " to " ++ spelling bounds.most)))

abbrev pub scale_text : Scale → List ℕ
scale_text (Rising bounds) = numbers_text (codes ", increasing, from ") bounds
scale_text (Falling bounds) = numbers_text (codes ", decreasing, from ") bounds
scale_text (Named names) = codes "enumerated, " ++ listed (map quoted_text names)

abbrev pub criterion_line : ℕ → Criterion → List ℕ
criterion_line place criterion =
    counted (codes "criterion ") place (codes ": ")
    ++ (quoted_text criterion.name ++ (codes ", " ++ (scale_text criterion.scale ++ line_end)))

abbrev pub category_line : ℕ → List ℕ → List ℕ
category_line place name = counted (codes "category ") place (codes ": ") ++ (quoted_text name ++ line_end)

-- how many criteria and categories, then a line for each criterion and for each category
abbrev pub problem_description : ProblemValue → List ℕ
problem_description problem =
    counted (codes "problem: ") (length problem.criteria) (codes " criteria, ")
    ++ (counted [] (length problem.categories) (codes " categories" ++ line_end)
    ++ (numbered criterion_line 0 problem.criteria ++ numbered category_line 0 problem.categories))

abbrev pub count_line : ℕ → ℕ → List ℕ
count_line place count = counted (codes "category ") place (codes ": ") ++ counted [] count line_end

-- how many rows there are, how many of them are classified, and how many are of each category
abbrev pub counts_text : ℕ → ℕ → List ℕ → List ℕ
counts_text rows classified counts =
    counted (codes "alternatives: ") rows line_end
    ++ (counted (codes "classified: ") classified line_end ++ numbered count_line 0 counts)

-- the description of rows, for so many categories
abbrev pub alternatives_text : ℕ → List Row → List ℕ
alternatives_text categories rows =
    counts_text (length rows) (classified_count rows) (map (category_count rows) (range_with_len 0 categories))

-- unless a row is refused
abbrev pub unless_refused : ProblemValue → List Row → Option RowFault → Result (List ℕ) RowFault
unless_refused problem rows None = Ok (alternatives_text (length problem.categories) rows)
unless_refused problem rows (Some fault) = Err fault

-- the description of the rows that a table has left, or the fault of the first refused one
abbrev pub table_description : ProblemValue → TableState → Result (List ℕ) RowFault
table_description problem table = unless_refused problem (rows_left problem table).0 (rows_left problem table).1

-- the description of a table was appended, or a prefix of it if memory ran out, or nothing at a refused row
pub record Describes {T : Type 0} (answer : Result (List ℕ) RowFault) (old new : List ℕ)
    (result : Result T RowFault) : Type 0 where
  pub text : IfOk answer (λ text. Puts old new result text)
  pub refused : IfErr answer (λ why. (result ≡ Err why) ⊎ (result ≡ Err fault.NoMemory))
  pub cause : IfErr result (λ why. (why ≡ fault.NoMemory) ⊎ (answer ≡ Err why))
  pub nothing : IfErr answer (λ why. new ≡ old)
