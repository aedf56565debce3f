-- Texts that are appended one after the other; what a summary says.
use Rattle.std.proofs.Common.{◌≡◌, ℕ, Bool, true, cond, List, [], ◌∷◌, ◌++◌, length, Result, Ok, Err, refl, ap, ◌∙◌, append_assoc, eq-eqb, arith}
use Rattle.std.specs.Prelude.{OnOk, ◌==◌, count_by}
use Rattle.std.specs.List.{All}
use Rattle.std.proofs.lemmas.List.Elements.{All-head, All-tail}
use Rattle.std.proofs.lemmas.List.Sums.{sum_by-cons}
use Rattle.sorting_rule.specs.Examples.{Example, Restores}
use Rattle.sorting_rule.specs.Model.{Model, category}
use Rattle.problem_core.specs.Problem.{ProblemValue}
use Rattle.model_core.specs.Model.{ModelValue, rule_of}
use Rattle.model_text_core.specs.ModelText.{model_text}
use Rattle.report_core.specs.Restored.{restored_count}
use Rattle.rehearsal_core.specs.Rehearsed.{summary_text, counts_text, restored_line, IsSummary}

-- one, and then the rest
pub onto : (old mid new a rest : List ℕ) → mid ≡ old ++ a → new ≡ mid ++ rest → new ≡ old ++ (a ++ rest)
onto old mid new a rest first later = later ∙ ap (λ t. t ++ rest) first ∙ append_assoc old a rest

-- the same, if the last call has memory
pub onto_ok : {T E : Type 0} (r : Result T E) (old mid new a rest : List ℕ) → mid ≡ old ++ a → OnOk r (new ≡ mid ++ rest) → OnOk r (new ≡ old ++ (a ++ rest))
onto_ok (Ok x) old mid new a rest first later = onto old mid new a rest first later
onto_ok (Err e) old mid new a rest first later = later

-- a test that all pass counts them all
all_counted : {X : Type 0} (p : X → Bool) (xs : List X) → All (λ x. p x ≡ true) xs → count_by p xs ≡ length xs
all_counted p [] all = refl
all_counted p (x ∷ xs) all =
    let one : Bool → ℕ = λ b. cond b 1 0 in
    let here : one (p x) ≡ 1 = ap one (All-head (λ x. p x ≡ true) x xs all) in
    let rest = all_counted p xs (All-tail (λ x. p x ≡ true) x xs all) in
    let sum = sum_by-cons (λ x. one (p x)) x xs in
    omega (arith, here, rest, sum)

all_restored : (m : Model) (examples : List Example) → Restores m examples → restored_count m examples ≡ length examples
all_restored m examples restores = all_counted (λ e. category m e.grades == e.category) examples (λ k d lt. eq-eqb _ _ (restores k d lt))

pub says_all : (problem : ProblemValue) (examples : List Example) (text : List ℕ) → IsSummary problem examples text
    → (model : ModelValue) × (text ≡ counts_text problem examples ++ (restored_line (length examples) (length examples) ++ model_text problem model))
unfolding summary_text
says_all problem examples text s =
    (s.model, s.is ∙ ap (λ n. counts_text problem examples ++ (restored_line n (length examples) ++ model_text problem s.model)) (all_restored (rule_of problem s.model) examples s.learns.restores))
