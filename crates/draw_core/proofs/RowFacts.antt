-- Rows that are drawn one after the other are the rows of all words, and their texts are the table.
use Rattle.std.proofs.Common.{◌≡◌, ℕ, zero, suc, ◌+◌, ◌*◌, ◌<◌, ℤ, List, [], ◌∷◌, ◌++◌, length, get_or, slice_get, take, pos, Some, refl, sym, ap, ◌∙◌, subst, inl, inr, arith, append_assoc, add-one}
use Rattle.std.specs.Prelude.{codes, slice_index_or}
use Rattle.std.specs.List.{AllZip}
use Rattle.std.proofs.lemmas.Bool.{cases_lt}
use Rattle.std.proofs.lemmas.List.{append-nil, get_or_default}
use Rattle.std.proofs.lemmas.List.Elements.{All-push}
use Rattle.std.proofs.lemmas.Nat.{mul-add-lt}
use Rattle.std.proofs.lemmas.Option.{get_or_from_slice_get}
use Rattle.std.proofs.lemmas.Slice.Zip.{AllZip-long}
use Rattle.std.proofs.Math.Nat.{add-mul, mul_comm}
use Rattle.std.proofs.Math.Seq.{take-append-add}
use Rattle.rand_pcg.specs.Lcg.{Lcg}
use Rattle.rand_pcg.specs.Pcg.{pcg32}
use Rattle.lists_core.proofs.PutsFacts.{puts-cut}
use Rattle.problem_core.specs.Grade.{IsGrade, grade_text}
use Rattle.problem_core.specs.Problem.{ProblemValue}
use Rattle.problem_core.specs.declared.criterion.Criterion.{Criterion}
use Rattle.sorting_rule.specs.Examples.{Example, Restores}
use Rattle.sorting_rule.specs.Model.{Model, category}
use Rattle.table_core.specs.Examples.{BelongTo}
use Rattle.table_core.specs.Written.{record_text}
use Rattle.encoding_rules.specs.Each.{each, listed}
use Rattle.encoding_rules.proofs.EachFacts.{length-listed, listed_all, listed_at, listed_same}
use Rattle.draw_core.specs.Choice.{no_criterion, scale_at}
use Rattle.draw_core.specs.DrawnProblem.{numbered}
use Rattle.draw_core.specs.DrawnTable.{cells_of, drawn_record, fields_of, drawn_example, drawn_examples, drawn_grade, row_grade, row_grades, next_grades, AreGrades}
use Rattle.draw_core.specs.Words.{after, word, words_of}
use Rattle.draw_core.proofs.WordFacts.{after-add}

-- ---- words

-- a row that is drawn after others
row-later : (problem : ProblemValue) (g : Lcg) (rows row : ℕ) → row < rows
    → next_grades problem (after (row * length problem.criteria) g)
    ≡ row_grades problem (words_of g (rows * length problem.criteria)) row
row-later problem g rows row lt =
    let n : ℕ = length problem.criteria in
    listed_same (λ i. drawn_grade (scale_at problem.criteria i) (word (after (row * n) g) i)) (row_grade problem (words_of g (rows * n)) row) n (λ i small.
    let within = mul-add-lt row n i rows lt small in
    let turned = mul_comm n rows in
    ap (drawn_grade (scale_at problem.criteria i))
    (ap (λ (h : Lcg). (pcg32 h).0) (after-add g (row * n) i) ∙ sym (listed_at (word g) (rows * n) (row * n + i) 0 (omega (arith, within, turned)))))

-- before the first row
pub row-start : (g now : Lcg) (n : ℕ) → now ≡ g → now ≡ after (0 * n) g
unfolding after
row-start g now n is = let none : 0 ≡ 0 * n = omega arith in is ∙ ap (λ k. after k g) none

-- the grades of the next row
pub row-drawn : (problem : ProblemValue) (g now : Lcg) (rows row : ℕ) (grades : List ℤ) → row < rows → now ≡ after (row * length problem.criteria) g
    → grades ≡ next_grades problem now → grades ≡ row_grades problem (words_of g (rows * length problem.criteria)) row
row-drawn problem g now rows row grades lt at is =
    is ∙ ap (next_grades problem) at ∙ row-later problem g rows row lt

-- the generator after one row more
pub row-after : (g now : Lcg) (row n : ℕ) (next : Lcg) → now ≡ after (row * n) g → next ≡ after n now → next ≡ after ((row + 1) * n) g
row-after g now row n next is step =
    let more = add-mul row 1 n in
    let e : row * n + n ≡ (row + 1) * n = omega (arith, more) in
    step ∙ ap (after n) is ∙ after-add g (row * n) n ∙ ap (λ k. after k g) e

-- ---- texts

-- what is in a text of pieces from one of them on
each-rest : (f : ℕ → List ℕ) (n k : ℕ) → k < n → (rest : List ℕ) × (each f n ≡ each f k ++ (f k ++ rest))
each-rest f zero k lt = absurd (omega (arith, lt))
each-rest f (suc n) k lt = elim (cases_lt k n) [
  | inl before ↦ (let (rest, is) = each-rest f n k before in
      (rest ++ f n, ap (λ t. t ++ f n) is ∙ append_assoc (each f k) (f k ++ rest) (f n) ∙ ap (λ t. each f k ++ t) (append_assoc (f k) rest (f n))))
  | inr past ↦ (let same : n ≡ k = omega (arith, lt, past) in
      subst (λ m. (rest : List ℕ) × (each f n ++ f n ≡ each f m ++ (f m ++ rest))) same ([], ap (λ t. each f n ++ t) (sym (append-nil (f n)))))
]

-- one piece more
pub each-more : (f : ℕ → List ℕ) (k : ℕ) (old now new : List ℕ) → now ≡ old ++ each f k → new ≡ now ++ f k → new ≡ old ++ each f (k + 1)
each-more f k old now new so_far more =
    more ∙ ap (λ t. t ++ f k) so_far ∙ append_assoc old (each f k) (f k) ∙ ap (λ m. old ++ each f m) (sym (add-one k))

-- a piece that was cut short
module _ (f : ℕ → List ℕ) (n k : ℕ) (old now new : List ℕ) (so_far : now ≡ old ++ each f k) where
  pub each-cut : k < n → (j : ℕ) × (new ≡ now ++ take j (f k)) → (j : ℕ) × (new ≡ old ++ take j (each f n))
  each-cut lt part =
      let (rest, is) = each-rest f n k lt in
      let (j, cut) = puts-cut now new (f k) rest part in (
        length (each f k) + j,
        cut ∙ ap (λ t. t ++ take j (f k ++ rest)) so_far ∙ append_assoc old (each f k) (take j (f k ++ rest)) ∙ ap (λ t. old ++ t) (sym (take-append-add (each f k) (f k ++ rest) j))
            ∙ ap (λ t. old ++ take (length (each f k) + j) t) (sym is),
      )

-- ---- examples

abbrev example : List ℤ → ℕ → Example
example grades k = record { grades = grades; category = k }

module _ (problem : ProblemValue) (rule : Model) where
  -- a drawn example more belongs to the problem
  pub drawn-push : (examples : List Example) (e : Example) → BelongTo problem examples → AreGrades problem e.grades → e.category < length problem.categories
      → BelongTo problem (examples ++ e ∷ [])
  drawn-push examples e so grades category = record {
    grades = All-push (λ (x : Example). AreGrades problem x.grades) examples e so.grades grades;
    categories = All-push (λ (x : Example). x.category < length problem.categories) examples e so.categories category;
  }

  -- the rule gives each drawn example its category
  pub drawn-restored : (rows : ℕ) (words : List ℕ) → Restores rule (listed (drawn_example problem rule words) rows)
  drawn-restored rows words = listed_all (λ e. category rule e.grades ≡ e.category) (drawn_example problem rule words) rows (λ row lt. refl)

  pub examples-drawn : (rows : ℕ) (words : List ℕ) → listed (drawn_example problem rule words) rows ≡ drawn_examples problem rule rows words
  unfolding drawn_examples
  examples-drawn rows words = refl

  -- an example of the grades of a row, and of the category that the rule gives them
  pub example-made : (words : List ℕ) (row : ℕ) (grades : List ℤ) (c : ℕ) → grades ≡ row_grades problem words row → c ≡ category rule grades
      → record { grades = grades; category = c } ≡ drawn_example problem rule words row
  example-made words row grades c is sorted = ap (λ k. example grades k) sorted ∙ ap (λ gs. example gs (category rule gs)) is

  -- and its record
  pub record-made : (words : List ℕ) (row : ℕ) (grades : List ℤ) (c : ℕ) → grades ≡ row_grades problem words row → c ≡ category rule grades
      → record_text (numbered (codes "Alternative ") (row + 1) ∷ (cells_of problem grades ++ slice_index_or problem.categories c [] ∷ [])) ≡ drawn_record problem rule words row
  record-made words row grades c is sorted =
      let name : List ℕ = numbered (codes "Alternative ") (row + 1) in
      ap (λ k. record_text (name ∷ (cells_of problem grades ++ slice_index_or problem.categories k [] ∷ []))) sorted
      ∙ ap (λ gs. record_text (fields_of problem rule row gs)) is

-- ---- cells

-- there is a grade for each criterion
pub grades-long : (problem : ProblemValue) (grades : List ℤ) → AreGrades problem grades → length grades ≡ length problem.criteria
grades-long problem grades each = AllZip-long (λ (criterion : Criterion) (grade : ℤ). IsGrade criterion.scale grade) problem.criteria grades each

-- a grade of a row is one of its criterion's scale
pub zip-at : (R : Criterion → ℤ → Type 0) (criteria : List Criterion) (grades : List ℤ) (i : ℕ) (criterion : Criterion) (grade : ℤ)
    → AllZip R criteria grades → slice_get criteria i ≡ Some criterion → grade ≡ get_or grades i grade → R criterion grade
zip-at R [] grades i criterion grade all at is = absurd cc
zip-at R (c ∷ cs) [] i criterion grade all at is = absurd all
zip-at R (c ∷ cs) (g ∷ gs) zero criterion grade all at is =
    let first : c ≡ criterion = cc in
    let second : g ≡ grade = sym is in
    subst (λ x. R x grade) first (subst (R c) second all.0)
zip-at R (c ∷ cs) (g ∷ gs) (suc i) criterion grade all at is = zip-at R cs gs i criterion grade all.1 at is

-- the cell of a criterion is the text of its grade
pub cell-at : (problem : ProblemValue) (grades : List ℤ) (i : ℕ) (criterion : Criterion) (grade : ℤ) → i < length problem.criteria → i < length grades
    → slice_get problem.criteria i ≡ Some criterion → grade ≡ get_or grades i grade → get_or (cells_of problem grades) i [] ≡ grade_text criterion.scale grade
cell-at problem grades i criterion grade lt within at is =
    let here : get_or problem.criteria i no_criterion ≡ criterion = get_or_from_slice_get problem.criteria i criterion no_criterion at in
    listed_at (λ k. grade_text (scale_at problem.criteria k) (get_or grades k (pos 0))) (length problem.criteria) i [] lt
    ∙ ap (λ (x : Criterion). grade_text x.scale (get_or grades i (pos 0))) here
    ∙ ap (grade_text criterion.scale) (get_or_default grades i (pos 0) grade within ∙ sym is)

-- there is a cell for each criterion
pub cells-long : (problem : ProblemValue) (grades : List ℤ) → length (cells_of problem grades) ≡ length problem.criteria
cells-long problem grades = length-listed (λ k. grade_text (scale_at problem.criteria k) (get_or grades k (pos 0))) (length problem.criteria)
