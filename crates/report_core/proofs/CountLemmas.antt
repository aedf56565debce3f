-- Rows that are counted one after another.
use Rattle.std.proofs.Common.{◌≡◌, ◌⊎◌, inl, inr, ◌++◌, take, ℕ, ◌+◌, ◌<◌, ◌≤◌, Bool, true, false, cond, List, [], ◌∷◌, length, append-nil, map, Option, Some, None, Result, Ok, Err, refl, sym, ap, ◌∙◌, arith}
use Rattle.std.specs.Prelude.{replicate, slice_index_or}
use Rattle.std.specs.List.{range_with_len}
use Rattle.std.proofs.lemmas.List.{get_or-replicate, length-replicate}
use Rattle.std.proofs.lemmas.List.Sums.{sum_by-cons}
use Rattle.std.proofs.lemmas.List.FromFn.{fill_by_all}
use Rattle.problem_core.specs.Problem.{ProblemValue}
use Rattle.table_core.specs.Rows.{rows_left}
use Rattle.table_core.specs.Table.{TableState}
use Rattle.table_core.specs.declared.fault.RowFault.{RowFault}
use Rattle.table_core.specs.declared.fault.RowFault.TheVariants as fault
use Rattle.table_core.specs.declared.row.Row.{Row}
use Rattle.report_core.specs.Counts.{is_classified, is_category, classified_count, category_count, one_if, CountsRow, AreCounted, AreAtMost}
use Rattle.report_core.specs.Described.{table_description, unless_refused, counts_text, Describes}
use Rattle.report_core.specs.declared.counts.Counts.{Counts}

one_most : (b : Bool) → one_if b ≤ 1
one_most true = omega arith
one_most false = omega arith

one_cond : (b : Bool) → one_if b ≡ cond b 1 0
one_cond true = refl
one_cond false = refl

-- no row was counted yet
pub none_counted : (rows : List Row) (n : ℕ) (counts : Counts) → counts.classified ≡ 0 → counts.categories.items ≡ replicate n 0 → AreCounted rows rows counts
none_counted rows n counts none zeros = record {
  all = omega (arith, none);
  each = λ place within.
      let size : place < n = omega (arith, within, ap length zeros, length-replicate {A = ℕ} n 0) in
      let zero : slice_index_or counts.categories.items place 0 ≡ 0 = ap (λ l. slice_index_or l place 0) zeros ∙ get_or-replicate n place 0 0 size in
      omega (arith, zero);
}

pub none_at_most : (most n : ℕ) (counts : Counts) → counts.classified ≡ 0 → counts.categories.items ≡ replicate n 0 → AreAtMost most counts
none_at_most most n counts none zeros = record {
  all = omega (arith, none);
  each = λ place within.
      let size : place < n = omega (arith, within, ap length zeros, length-replicate {A = ℕ} n 0) in
      let zero : slice_index_or counts.categories.items place 0 ≡ 0 = ap (λ l. slice_index_or l place 0) zeros ∙ get_or-replicate n place 0 0 size in
      omega (arith, zero);
}

module _ (row : Row) (category : Option ℕ) (is : category ≡ row.category) (old new : Counts) (counts : CountsRow category old new) where
  -- one more row was counted
  pub row_counted : (rows left left' : List Row) → left ≡ row ∷ left' → AreCounted rows left old → AreCounted rows left' new
  row_counted rows left left' split so =
      let first = counts.all in
      let test : is_classified category ≡ is_classified row.category = ap is_classified is in
      let one = ap one_if test ∙ one_cond (is_classified row.category) in
      let step : classified_count (row ∷ left') ≡ cond (is_classified row.category) 1 0 + classified_count left' = sum_by-cons (λ (r : Row). cond (is_classified r.category) 1 0) row left' in
      let more : classified_count left ≡ cond (is_classified row.category) 1 0 + classified_count left' = ap classified_count split ∙ step in
      let all = so.all in
      record {
        all = omega (arith, first, one, more, all);
        each = λ place within.
            let here = counts.each place (omega (arith, within, counts.size)) in
            let before = so.each place (omega (arith, within, counts.size)) in
            let one' = ap one_if (ap (is_category place) is) ∙ one_cond (is_category place row.category) in
            let step' : category_count (row ∷ left') place ≡ cond (is_category place row.category) 1 0 + category_count left' place = sum_by-cons (λ (r : Row). cond (is_category place r.category) 1 0) row left' in
            let more' : category_count left place ≡ cond (is_category place row.category) 1 0 + category_count left' place = ap (λ rows. category_count rows place) split ∙ step' in
            omega (arith, here, before, one', more');
      }

  -- each count rose by at most one
  pub row_at_most : (most : ℕ) → AreAtMost most old → AreAtMost (most + 1) new
  row_at_most most few =
      let first = counts.all in
      let one = one_most (is_classified category) in
      let all = few.all in
      record {
        all = omega (arith, first, one, all);
        each = λ place within.
            let here = counts.each place (omega (arith, within, counts.size)) in
            let before = few.each place (omega (arith, within, counts.size)) in
            let one' = one_most (is_category place category) in
            omega (arith, here, before, one');
      }

-- fewer are fewer still
pub at_most_more : (less more : ℕ) (counts : Counts) → less ≤ more → AreAtMost less counts → AreAtMost more counts
at_most_more less more counts le few = record { all = omega (arith, le, few.all); each = λ place within. omega (arith, le, few.each place within) }

module _ (problem : ProblemValue) (table : TableState) where
  -- the description of a table without a refused row
  pub described : (counts : Counts) → (rows_left problem table).1 ≡ None → length counts.categories.items ≡ length problem.categories → AreCounted (rows_left problem table).0 [] counts
      → table_description problem table ≡ Ok (counts_text (length (rows_left problem table).0) counts.classified counts.categories.items)
  described counts fine size counted =
      let rows = (rows_left problem table).0 in
      let n = length problem.categories in
      let all = counted.all in
      let same : counts.classified ≡ classified_count rows = omega (arith, all) in
      let items : counts.categories.items ≡ map (category_count rows) (range_with_len 0 n) =
      fill_by_all (category_count rows) counts.categories.items n 0 size (λ place within. omega (arith, counted.each place (omega (arith, within, size)))) in
      let good : List ℕ → Result (List ℕ) RowFault = λ text. Ok text in
      ap (unless_refused problem rows) fine ∙ ap (λ c. good (counts_text (length rows) c (map (category_count rows) (range_with_len 0 n)))) (sym same)
      ∙ ap (λ l. good (counts_text (length rows) counts.classified l)) (sym items)

  pub undescribed : (why : RowFault) → (rows_left problem table).1 ≡ Some why → table_description problem table ≡ Err why
  undescribed why last = ap (unless_refused problem (rows_left problem table).0) last

-- no row was counted, since one is refused or memory ran out
pub described_nothing : (answer : Result (List ℕ) RowFault) (old : List ℕ) (why : RowFault) → (why ≡ fault.NoMemory) ⊎ (answer ≡ Err why) → Describes {T = Unit {0}} answer old old (Err why)
described_nothing (Ok text) old why (inl none) = record { text = (0, sym (append-nil old)); refused = tt; cause = inl none; nothing = tt }
described_nothing (Ok text) old why (inr e) = absurd cc
described_nothing (Err other) old why (inl none) = record { text = tt; refused = inr (ap (λ w. Err w) none); cause = inl none; nothing = refl }
described_nothing (Err other) old why (inr e) = let same : other ≡ why = cc in record { text = tt; refused = inl (ap (λ w. Err w) (sym same)); cause = inr e; nothing = refl }

-- all rows were counted
pub described_whole : (answer : Result (List ℕ) RowFault) (text old new : List ℕ) → answer ≡ Ok text → new ≡ old ++ text → Describes {T = Unit {0}} answer old new (Ok tt)
described_whole (Ok x) text old new is put = let same : x ≡ text = cc in record { text = put ∙ ap (λ l. old ++ l) (sym same); refused = tt; cause = tt; nothing = tt }
described_whole (Err why) text old new is put = absurd cc

pub described_partly : (answer : Result (List ℕ) RowFault) (text old new : List ℕ) → answer ≡ Ok text → (k : ℕ) × (new ≡ old ++ take k text) → Describes {T = Unit {0}} answer old new (Err fault.NoMemory)
described_partly (Ok x) text old new is (k, put) = let same : x ≡ text = cc in record { text = (k, put ∙ ap (λ l. old ++ take k l) (sym same)); refused = tt; cause = inl refl; nothing = tt }
described_partly (Err why) text old new is part = absurd cc

-- why no row was counted
pub why_not : (problem : ProblemValue) (table : TableState) (why : RowFault) → (why ≡ fault.NoMemory) ⊎ ((rows_left problem table).1 ≡ Some why) → (why ≡ fault.NoMemory) ⊎ (table_description problem table ≡ Err why)
why_not problem table why (inl none) = inl none
why_not problem table why (inr last) = inr (undescribed problem table why last)
