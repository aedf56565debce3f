-- Numbered names: none is another one's, and all are good.
use Rattle.std.proofs.Common.{◌≡◌, ℕ, zero, suc, ◌+◌, ◌<◌, ◌≤◌, Bool, true, false, not, ◌==◌, List, [], ◌∷◌, ◌++◌, map, refl, sym, ap, ◌∙◌, subst, inl, inr, arith}
use Rattle.std.specs.Prelude.{codes, Contains}
use Rattle.std.specs.List.{list_all, IsDistinct}
use Rattle.std.specs.Fmt.{digits}
use Rattle.std.specs.Str.{bytes_eq}
use Rattle.std.proofs.lemmas.Bool.{cases_Bool, cases_lt, and_from, and_parts}
use Rattle.std.proofs.lemmas.Cmp.{nat_list_eq_equiv}
use Rattle.std.proofs.lemmas.List.{map-append}
use Rattle.std.proofs.lemmas.List.Folds.{list_all-append}
use Rattle.std.proofs.lemmas.Map.Keys.{IsDistinct-push}
use Rattle.problem_core.specs.Criterion.{is_criterion, is_criterion_name, is_scale}
use Rattle.problem_core.specs.Name.{is_among, is_good_name}
use Rattle.problem_core.specs.Problem.{IsProblem, ProblemValue}
use Rattle.problem_core.specs.declared.criterion.Criterion.{Criterion}
use Rattle.problem_core.proofs.NamesFacts.{absent_from_test}
use Rattle.encoding_rules.specs.Each.{listed}
use Rattle.encoding_rules.proofs.EachFacts.{length-listed}
use Rattle.draw_core.specs.DrawnProblem.{drawn_category, drawn_criterion, drawn_problem, drawn_scale, numbered}
use Rattle.draw_core.specs.NewNames.{all_below, are_new}
use Rattle.draw_core.specs.Words.{number_at}

-- ---- the numbers below another

all_below_at : (p : ℕ → Bool) (n i : ℕ) → all_below p n ≡ true → i < n → p i ≡ true
all_below_at p zero i h lt = absurd (omega (arith, lt))
all_below_at p (suc n) i h lt = elim (cases_lt i n) [
  | inl before ↦ all_below_at p n i (and_parts (all_below p n) (p n) h).0 before
  | inr after ↦ (let same : n ≡ i = omega (arith, lt, after) in subst (λ m. p m ≡ true) same (and_parts (all_below p n) (p n) h).1)
]

list_all_listed : {A : Type 0} (p : A → Bool) (f : ℕ → A) (n : ℕ) → ((i : ℕ) → i < n → p (f i) ≡ true) → list_all p (listed f n) ≡ true
list_all_listed p f zero h = refl
list_all_listed p f (suc n) h =
    list_all-append p (listed f n) (f n ∷ []) ∙ rw (list_all_listed p f n (λ i lt. h i (omega (arith, lt))), h n (omega arith)) refl

map_listed : {A B : Type 0} (g : A → B) (f : ℕ → A) (n : ℕ) → map g (listed f n) ≡ listed (λ i. g (f i)) n
map_listed g f zero = refl
map_listed g f (suc n) = map-append g (listed f n) (f n ∷ []) ∙ ap (λ xs. xs ++ g (f n) ∷ []) (map_listed g f n)

-- ---- new names

not-true : (b : Bool) → not b ≡ true → b ≡ false
not-true true h = sym h
not-true false h = refl

-- a new name is no earlier one
new_at : (name : ℕ → List ℕ) (count k : ℕ) → are_new name count ≡ true → k < count → is_among (listed name k) (name k) ≡ false
new_at name count k h lt = not-true _ (all_below_at (λ i. not (is_among (listed name i) (name i))) count k h lt)

pub absent_at : (name : ℕ → List ℕ) (count k : ℕ) → are_new name count ≡ true → k < count → ¬ Contains (listed name k) (name k)
absent_at name count k h lt = absent_from_test (name k) (listed name k) (new_at name count k h lt)

-- new names differ from each other
new_differ : (name : ℕ → List ℕ) (count n : ℕ) → are_new name count ≡ true → n ≤ count → IsDistinct bytes_eq (listed name n)
unfolding IsDistinct
new_differ name count zero h le = tt
new_differ name count (suc n) h le =
    IsDistinct-push nat_list_eq_equiv (listed name n) (name n) (new_differ name count n h (omega (arith, le))) (new_at name count n h (omega (arith, le)))

-- and so are fewer of them
fewer_new : (name : ℕ → List ℕ) (count n : ℕ) → are_new name count ≡ true → n ≤ count → are_new name n ≡ true
fewer_new name count zero h le = refl
fewer_new name count (suc n) h le =
    and_from _ _ (fewer_new name count n h (omega (arith, le))) (all_below_at (λ i. not (is_among (listed name i) (name i))) count n h (omega (arith, le)))

-- ---- the names that are drawn

criteria_new : are_new (λ i. numbered (codes "Criterion ") (i + 1)) 16 ≡ true
unfolding digits
criteria_new = refl

categories_new : are_new (λ k. numbered (codes "Category ") (k + 1)) 10 ≡ true
unfolding digits
categories_new = refl

pub values_new : are_new (λ k. numbered (codes "v") (k + 0)) 5 ≡ true
unfolding digits
values_new = refl

criteria_good : all_below (λ i. is_criterion_name (numbered (codes "Criterion ") (i + 1))) 16 ≡ true
unfolding digits
criteria_good = refl

categories_good : all_below (λ k. is_good_name (numbered (codes "Category ") (k + 1))) 10 ≡ true
unfolding digits
categories_good = refl

category_good : (k : ℕ) → k < 10 → is_good_name (drawn_category k) ≡ true
category_good k lt = all_below_at (λ i. is_good_name (numbered (codes "Category ") (i + 1))) 10 k categories_good lt

scale_good : (kind : ℕ) → is_scale (drawn_scale kind) ≡ true
unfolding digits
scale_good kind = elim (cases_Bool (kind == 0)) [
  | inl a ↦ rw a refl
  | inr a ↦ elim (cases_Bool (kind == 1)) [
    | inl b ↦ rw (a, b) refl
    | inr b ↦ elim (cases_Bool (kind == 2)) [ inl c ↦ rw (a, b, c) refl | inr c ↦ rw (a, b, c) refl ]
  ]
]

criterion_good : (words : List ℕ) (i : ℕ) → i < 16 → is_criterion (drawn_criterion words i) ≡ true
criterion_good words i lt =
    and_from _ _ (all_below_at (λ k. is_criterion_name (numbered (codes "Criterion ") (k + 1))) 16 i criteria_good lt) (scale_good (number_at words i 4))

pub some_categories_new : (n : ℕ) → n ≤ 10 → are_new drawn_category n ≡ true
some_categories_new n le = fewer_new drawn_category 10 n categories_new le

-- a drawn problem is a problem
pub drawn_is_problem : (n p : ℕ) (words : List ℕ) → 1 ≤ n → n ≤ 16 → 2 ≤ p → p ≤ 10 → IsProblem (drawn_problem n p words)
unfolding drawn_problem
drawn_is_problem n p words some few more most =
    let criteria = length-listed (drawn_criterion words) n in
    let categories = length-listed drawn_category p in
    record {
      some_criteria = omega (arith, criteria);
      few_criteria = omega (arith, criteria);
      good_criteria = list_all_listed is_criterion (drawn_criterion words) n (λ i lt. criterion_good words i (omega (arith, lt, few)));
      criteria_differ = subst (IsDistinct bytes_eq) (sym (map_listed (λ (x : Criterion). x.name) (drawn_criterion words) n)) (new_differ (λ i. numbered (codes "Criterion ") (i + 1)) 16 n criteria_new few);
      some_categories = omega (arith, categories);
      few_categories = omega (arith, categories);
      good_categories = list_all_listed is_good_name drawn_category p (λ i lt. category_good i (omega (arith, lt, most)));
    }

abbrev problem : List Criterion → List (List ℕ) → ProblemValue
problem criteria categories = record { criteria = criteria; categories = categories }

-- a problem of drawn criteria and categories
pub made_problem : (n p : ℕ) (words : List ℕ) (criteria : List Criterion) (categories : List (List ℕ))
    → criteria ≡ listed (drawn_criterion words) n → categories ≡ listed drawn_category p → record { criteria = criteria; categories = categories } ≡ drawn_problem n p words
unfolding drawn_problem
made_problem n p words criteria categories e f = ap (λ x. problem x categories) e ∙ ap (problem (listed (drawn_criterion words) n)) f
