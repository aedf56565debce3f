-- Examples that fit a problem, from the first on.
use Rattle.std.proofs.Common.{◌≡◌, ℕ, suc, ◌+◌, ◌<◌, ℤ, List, [], ◌∷◌, refl, length, get_or, sym, ap, ◌∙◌, subst, arith, inl, inr}
use Rattle.std.specs.List.{AllWithin, AllZip}
use Rattle.std.proofs.lemmas.Bool.{cases_lt}
use Rattle.std.proofs.lemmas.List.{get_or_default, length-map}
use Rattle.sorting_rule.specs.Examples.{Example}
use Rattle.problem_core.specs.Grade.{direction_of, IsGrade}
use Rattle.problem_core.specs.Problem.{ProblemValue}
use Rattle.problem_core.specs.declared.criterion.Criterion.{Criterion}
use Rattle.table_core.specs.Examples.{no_example, BelongTo}
use Rattle.encoding_rules.specs.Task.{IsTask}
use Rattle.ranks_core.specs.Ranks.{task_of}

-- an example with a grade for each criterion and one of the categories
pub record Fits (problem : ProblemValue) (e : Example) : Type 0 where
  pub grades : length e.grades ≡ length problem.criteria
  pub category : e.category < length problem.categories

module _ (problem : ProblemValue) (examples : List Example) where
  -- the examples before one fit
  abbrev pub FitBefore : ℕ → Type 0
  FitBefore k = AllWithin (Fits problem) examples 0 k

  pub fit_more : (k : ℕ) → k < length examples → FitBefore k → Fits problem (get_or examples k no_example) → FitBefore (k + 1)
  fit_more k lt before here j d from below = elim (cases_lt j k) [
    | inl earlier ↦ before j d from earlier
    | inr later ↦ (let same : k ≡ j = omega (arith, later, below) in
        subst (Fits problem) (get_or_default examples k no_example d lt ∙ ap (λ i. get_or examples i d) same) here)
  ]

  wide : length (task_of problem examples).directions ≡ length problem.criteria
  wide = length-map problem.criteria (λ (c : Criterion). direction_of c.scale)

  pub all_fit : FitBefore (length examples) → IsTask (task_of problem examples)
  all_fit all = record {
    grades = λ k d lt. (all k d (omega arith) lt).grades ∙ sym wide;
    categories = λ k d lt. (all k d (omega arith) lt).category;
  }

  pub each_fits : (k : ℕ) → k < length examples → IsTask (task_of problem examples) → Fits problem (get_or examples k no_example)
  each_fits k lt task = record { grades = task.grades k no_example lt ∙ wide; category = task.categories k no_example lt }

-- lists that go together are equally long
same_length : {A B : Type 0} (R : A → B → Type 0) (xs : List A) (ys : List B) → AllZip R xs ys → length ys ≡ length xs
same_length R [] [] h = refl
same_length R [] (y ∷ ys) h = absurd h
same_length R (x ∷ xs) [] h = absurd h
same_length R (x ∷ xs) (y ∷ ys) h = ap suc (same_length R xs ys h.1)

pub belong_fit : (problem : ProblemValue) (examples : List Example) → BelongTo problem examples → IsTask (task_of problem examples)
belong_fit problem examples belong = record {
  grades = λ k d lt. same_length (λ (criterion : Criterion) (grade : ℤ). IsGrade criterion.scale grade) problem.criteria (get_or examples k d).grades (belong.grades k d lt)
      ∙ sym (length-map problem.criteria (λ (c : Criterion). direction_of c.scale));
  categories = belong.categories;
}
