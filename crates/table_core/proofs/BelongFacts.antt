-- The rows of a table, and so its examples, belong to its problem.
use Rattle.std.proofs.Common.{◌≡◌, inl, inr, ℕ, suc, ◌+◌, ◌<◌, ◌==◌, ℤ, List, [], ◌∷◌, length, Option, None, Some, IfSome, Result, Ok, Err, position, refl, ap, subst, arith}
use Rattle.std.specs.List.{All, AllZip, cons_option}
use Rattle.std.specs.Str.{bytes_eq}
use Rattle.std.specs.Prelude.{slice_index_or}
use Rattle.std.proofs.lemmas.Bool.{cases_Bool}
use Rattle.std.proofs.lemmas.List.{length-map}
use Rattle.std.proofs.lemmas.List.Elements.{All-nil, All-cons, All-head, All-tail, All-weaker}
use Rattle.std.proofs.lemmas.List.Quantifiers.{position-Some}
use Rattle.lists_core.proofs.AnswerLemmas.{accepted_bind}
use Rattle.problem_core.specs.Grade.{text_grade, IsGrade}
use Rattle.problem_core.specs.Problem.{ProblemValue, criterion_names}
use Rattle.problem_core.specs.declared.criterion.Criterion.{Criterion}
use Rattle.problem_core.specs.declared.grade.GradeFault.{GradeFault}
use Rattle.sorting_rule.specs.Examples.{Example}
use Rattle.lists_core.specs.Answers.{◌>>=◌}
use Rattle.table_core.specs.Examples.{classified, classified_rows, examples_left, unless_fault, BelongTo}
use Rattle.table_core.specs.Header.{category_column, name_column}
use Rattle.table_core.specs.Row.{cell_category, cell_of, cells_of, category_in, category_of, field_category, grade_in, grades_of, row_of}
use Rattle.table_core.specs.Rows.{RowsRead, before, rows_left, rows_of, unless_refused}
use Rattle.table_core.specs.Table.{TableState, next_of, next_row}
use Rattle.table_core.specs.declared.fault.RowFault.{RowFault}
use Rattle.table_core.specs.declared.row.Row.{Row}
use Rattle.table_core.proofs.NameFacts.{length-names}

abbrev AreGrades : List Criterion → List ℤ → Type 0
AreGrades criteria grades = AllZip (λ criterion grade. IsGrade criterion.scale grade) criteria grades

-- a row with a grade of each scale, and a category of the problem, if it has one
record RowBelongs (problem : ProblemValue) (row : Row) : Type 0 where
  grades : AreGrades problem.criteria row.grades
  category : IfSome row.category (λ c. c < length problem.categories)

grade_read : (row place : ℕ) (r : Result ℤ GradeFault) (grade : ℤ) → grade_in row place r ≡ Ok grade → r ≡ Ok grade
grade_read row place (Ok x) grade e = let same : x ≡ grade = cc in ap (λ y. Ok y) same
grade_read row place (Err why) grade e = absurd cc

grades_belong : (row place : ℕ) (criteria : List Criterion) (cells : List (List ℕ)) (grades : List ℤ) → length cells ≡ length criteria
    → grades_of row place criteria cells ≡ Ok grades → AreGrades criteria grades
unfolding grades_of
grades_belong row place [] cells grades same e = let none : [] ≡ grades = cc in subst (AreGrades []) none tt
grades_belong row place (criterion ∷ criteria) [] grades same e = absurd (omega (arith, same))
grades_belong row place (criterion ∷ criteria) (cell ∷ cells) grades same e =
    let rest : ℤ → Result (List ℤ) RowFault = λ grade. grades_of row (place + 1) criteria cells >>= λ others. Ok (grade ∷ others) in
    let (grade, read, more) = accepted_bind (grade_in row place (text_grade criterion.scale cell)) rest grades e in
    let (others, read', made) = accepted_bind (grades_of row (place + 1) criteria cells) (λ others. Ok (grade ∷ others)) grades more in
    let both : grade ∷ others ≡ grades = cc in
    subst (AreGrades (criterion ∷ criteria)) both
    ((cell, grade_read row place (text_grade criterion.scale cell) grade read), grades_belong row (place + 1) criteria cells others (omega (arith, same)) read')

module _ (categories : List (List ℕ)) where
  abbrev IsCategoryOf : Option ℕ → Type 0
  IsCategoryOf category = IfSome category (λ c. c < length categories)

  found_belongs : (row : ℕ) (cell : List ℕ) (found category : Option ℕ) → position (bytes_eq cell) categories ≡ found → category_in row found ≡ Ok category → IsCategoryOf category
  found_belongs row cell None category is e = absurd cc
  found_belongs row cell (Some place) category is e =
      let same : Some place ≡ category = cc in
      subst IsCategoryOf same (position-Some (bytes_eq cell) categories place [] is).0

  none_belongs : (category : Option ℕ) → None ≡ category → IsCategoryOf category
  none_belongs category e = subst IsCategoryOf e tt

  empty_belongs : (category : Option ℕ) (answer : Result (Option ℕ) RowFault) → answer ≡ Ok category → answer ≡ Ok None → IsCategoryOf category
  empty_belongs category answer e none = none_belongs category cc

  cell_belongs : (row : ℕ) (cell : List ℕ) (category : Option ℕ) → cell_category row categories cell ≡ Ok category → IsCategoryOf category
  cell_belongs row cell category e =
      elim (cases_Bool (length cell == 0)) [
        | inl empty ↦ empty_belongs category (cell_category row categories cell) e (rw empty refl)
        | inr some ↦ found_belongs row cell (position (bytes_eq cell) categories) category refl (rw some at e)
      ]

  field_belongs : (row : ℕ) (fields : List (List ℕ)) (column category : Option ℕ) → field_category row categories fields column ≡ Ok category → IsCategoryOf category
  field_belongs row fields None category e = none_belongs category cc
  field_belongs row fields (Some column) category e = cell_belongs row (slice_index_or fields column []) category e

module _ (problem : ProblemValue) (header : List (List ℕ)) where
  row_belongs : (n : ℕ) (fields : List (List ℕ)) (row : Row) → row_of problem header n fields ≡ Ok row → RowBelongs problem row
  row_belongs n fields row e =
      elim (cases_Bool (length fields == length header)) [
        | inl long ↦ read_whole (rw long at e)
        | inr short ↦ absurd (let refused = rw short at e in cc)
      ]
    where
      made : List ℤ → Option ℕ → Row
      made grades category = record { name = cell_of header fields name_column; cells = cells_of problem header fields; grades = grades; category = category }

      read_whole : (grades_of n 0 problem.criteria (cells_of problem header fields) >>= λ grades. category_of problem header n fields >>= λ category. Ok (made grades category)) ≡ Ok row → RowBelongs problem row
      read_whole accepted =
          let (grades, read, rest) = accepted_bind (grades_of n 0 problem.criteria (cells_of problem header fields)) (λ grades. category_of problem header n fields >>= λ category. Ok (made grades category)) row accepted in
          let (category, found, is) = accepted_bind (category_of problem header n fields) (λ category. Ok (made grades category)) row rest in
          let same : made grades category ≡ row = cc in
          let cells = length-map (criterion_names problem.criteria) (cell_of header fields) in
          let names = length-names problem.criteria in
          subst (RowBelongs problem) same (record {
            grades = grades_belong n 0 problem.criteria (cells_of problem header fields) grades (omega (arith, cells, names)) read;
            category = field_belongs problem.categories n fields (position (bytes_eq category_column) header) category found;
          })

  before_belongs : (r : Result Row RowFault) (rest : RowsRead) → ((row : Row) → r ≡ Ok row → RowBelongs problem row) → All (RowBelongs problem) rest.0 → All (RowBelongs problem) (before r rest).0
  before_belongs (Ok row) rest first others = All-cons (RowBelongs problem) row rest.0 (first row refl) others
  before_belongs (Err why) rest first others = All-nil (RowBelongs problem)

  rows_belong : (n : ℕ) (left : List (List (List ℕ))) → All (RowBelongs problem) (rows_of problem header n left).0
  unfolding rows_of
  rows_belong n [] = All-nil (RowBelongs problem)
  rows_belong n (fields ∷ left) = before_belongs (row_of problem header n fields) (rows_of problem header (n + 1) left) (λ row e. row_belongs n fields row e) (rows_belong (n + 1) left)

next_row_belongs : (problem : ProblemValue) (header : List (List ℕ)) (n : ℕ) (fault : Option RowFault) (left : List (List (List ℕ))) (row : Row) → next_of problem header n fault left ≡ Ok (Some row) → RowBelongs problem row
next_row_belongs problem header n (Some why) left row e = absurd cc
next_row_belongs problem header n None [] row e = absurd cc
next_row_belongs problem header n None (fields ∷ left) row e =
    let (made, read, is) = accepted_bind (row_of problem header n fields) (λ made. Ok (Some made)) (Some row) e in
    let same : made ≡ row = cc in
    subst (RowBelongs problem) same (row_belongs problem header n fields made read)

-- the category of the next row, if it has one, is one of the problem's
pub next-category : (problem : ProblemValue) (table : TableState) (row : Row) → next_row problem table ≡ Ok (Some row) → IfSome row.category (λ c. c < length problem.categories)
next-category problem table row e = (next_row_belongs problem table.header (table.number + 1) table.fault table.left row e).category

module _ (problem : ProblemValue) where
  unrefused_belong : (fault : Option RowFault) (rows : RowsRead) → All (RowBelongs problem) rows.0 → All (RowBelongs problem) (unless_refused fault rows).0
  unrefused_belong (Some why) rows all = All-nil (RowBelongs problem)
  unrefused_belong None rows all = all

  left_belong : (table : TableState) → All (RowBelongs problem) (rows_left problem table).0
  left_belong table = unrefused_belong table.fault (rows_of problem table.header (table.number + 1) table.left) (rows_belong problem table.header (table.number + 1) table.left)

  abbrev HasGradesOf : Example → Type 0
  HasGradesOf e = AreGrades problem.criteria e.grades

  abbrev HasCategoryOf : Example → Type 0
  HasCategoryOf e = e.category < length problem.categories

  classified_belong : (rows : List Row) → All (RowBelongs problem) rows → BelongTo problem (classified_rows rows)
  unfolding classified_rows
  classified_belong [] all = record { grades = All-nil HasGradesOf; categories = All-nil HasCategoryOf }
  classified_belong (row ∷ rows) all = one (classified_belong rows (All-tail (RowBelongs problem) row rows all)) row.category refl
    where
      first : RowBelongs problem row
      first = All-head (RowBelongs problem) row rows all

      one : BelongTo problem (classified_rows rows) → (category : Option ℕ) → row.category ≡ category → BelongTo problem (cons_option (classified row.grades category) (classified_rows rows))
      one rest None is = rest
      one rest (Some category) is =
          let e : Example = record { grades = row.grades; category = category } in
          let P : Option ℕ → Type 0 = λ o. IfSome o (λ c. c < length problem.categories) in
          record {
            grades = All-cons HasGradesOf e (classified_rows rows) first.grades rest.grades;
            categories = All-cons HasCategoryOf e (classified_rows rows) (subst P is first.category) rest.categories;
          }

  unless_belong : (rows : List Row) (fault : Option RowFault) (examples : List Example) → All (RowBelongs problem) rows → unless_fault rows fault ≡ Ok examples → BelongTo problem examples
  unless_belong rows None examples all e = let same : classified_rows rows ≡ examples = cc in subst (BelongTo problem) same (classified_belong rows all)
  unless_belong rows (Some why) examples all e = absurd cc

  -- the examples that a table has left belong to its problem
  pub examples_belong : (table : TableState) (examples : List Example) → examples_left problem table ≡ Ok examples → BelongTo problem examples
  examples_belong table examples e = unless_belong (rows_left problem table).0 (rows_left problem table).1 examples (left_belong table) e

  zip_length : (criteria : List Criterion) (grades : List ℤ) → AreGrades criteria grades → length grades ≡ length criteria
  zip_length [] [] all = refl
  zip_length [] (g ∷ gs) all = absurd all
  zip_length (c ∷ cs) [] all = absurd all
  zip_length (c ∷ cs) (g ∷ gs) all = ap (λ n. suc n) (zip_length cs gs all.1)

  -- each example that belongs to a problem has as many grades as the problem has criteria
  pub belong-lengths : (examples : List Example) → BelongTo problem examples → All (λ e. length e.grades ≡ length problem.criteria) examples
  belong-lengths examples belong = All-weaker HasGradesOf (λ e. length e.grades ≡ length problem.criteria) (λ e all. zip_length problem.criteria e.grades all) examples belong.grades
