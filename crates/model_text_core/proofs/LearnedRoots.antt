-- Learned models have few roots.
use Rattle.std.proofs.Common.{◌≡◌, ℕ, zero, suc, ◌^◌, ◌≤◌, ◌<◌, List, [], ◌∷◌, length, map, sym, subst, arith}
use Rattle.std.specs.Prelude.{All, replicate, slice_index}
use Rattle.std.specs.List.Sorted.{IsStrictlyIncreasing}
use Rattle.std.proofs.Math.Pow.{pow_mono}
use Rattle.std.proofs.lemmas.List.Elements.{All-head, All-tail, All-cons, All-nil, All-get_or}
use Rattle.problem_core.specs.Problem.{ProblemValue, IsProblem}
use Rattle.sorting_rule.specs.Coalition as coalition
use Rattle.sorting_rule.specs.Examples.{Example}
use Rattle.sorting_rule.specs.Rebuilt.{Learns}
use Rattle.model_core.specs.Model.{ModelValue, AreCoalitions, Belongs, rule_of, sufficient_by}
use Rattle.model_core.specs.declared.model.Coalitions.{Coalitions}
use Rattle.model_core.specs.declared.model.Coalitions.TheVariants.{Weights, Roots}
use Rattle.model_text_core.specs.ModelText.{HasFewRoots, HaveFewRoots, ReadsBack, ReadsWhole}
use Rattle.model_text_core.proofs.Counts.{reads-whole}

-- numbers that rise are no less than their places
no-less : (xs : List ℕ) → IsStrictlyIncreasing xs → (k : ℕ) → k < length xs → k ≤ slice_index xs k
no-less xs rises zero h = omega arith
no-less xs rises (suc k) h =
    let before = no-less xs rises k (omega (arith, h)) in
    let next : slice_index xs k < slice_index xs (suc k) = subst (λ n. slice_index xs k < slice_index xs n) (omega arith) (rises k (omega (arith, h))) in
    omega (arith, before, next)

-- so there are at most n of them below n
few-below : (n : ℕ) (xs : List ℕ) → IsStrictlyIncreasing xs → All (λ x. x < n) xs → length xs ≤ n
few-below n [] rises below = omega arith
few-below n (x ∷ xs) rises below =
    let last = no-less (x ∷ xs) rises (length xs) (omega arith) in
    let under = All-get_or (λ x. x < n) (x ∷ xs) (length xs) 0 (omega arith) below in
    omega (arith, last, under)

-- sets of at most 16 criteria that rise are at most 65,536
few-sets : (count : ℕ) (xs : List ℕ) → count ≤ 16 → IsStrictlyIncreasing xs → All (λ x. x < 2 ^ count) xs → length xs ≤ 65536
few-sets count xs few rises below =
    let number = few-below (2 ^ count) xs rises below in
    let most : 2 ^ count ≤ 2 ^ 16 = pow_mono few in
    omega (arith, number, most)

-- coalitions that are the same roots at each boundary
few-of-same : (count : ℕ) (rs : List ℕ) (cs : List Coalitions) → count ≤ 16 → IsStrictlyIncreasing rs → map sufficient_by cs ≡ replicate (length (map sufficient_by cs)) (coalition.roots rs)
    → All (AreCoalitions count) cs → All HasFewRoots cs
few-of-same count rs [] few rises same are = All-nil HasFewRoots
few-of-same count rs (Weights ws ∷ cs) few rises same are = absurd cc
few-of-same count rs (Roots qs ∷ cs) few rises same are =
    let here : qs ≡ rs = cc in
    let more : map sufficient_by cs ≡ replicate (length (map sufficient_by cs)) (coalition.roots rs) = cc in
    let sets = All-head (AreCoalitions count) (Roots qs) cs are in
    All-cons HasFewRoots (Roots qs) cs (few-sets count qs few (subst IsStrictlyIncreasing (sym here) rises) sets.1)
    (few-of-same count rs cs few rises more (All-tail (AreCoalitions count) (Roots qs) cs are))

pub learned-few : (problem : ProblemValue) (m : ModelValue) (examples : List Example) → IsProblem problem → Belongs problem m → Learns examples (rule_of problem m) → HaveFewRoots m
learned-few problem m examples p b l =
    let roots = l.form.minimal in
    few-of-same (length problem.criteria) roots.0 m.coalitions p.few_criteria roots.2.rises roots.1 b.coalitions

-- the text of a learned model reads back whole
pub learned-reads-whole : (problem : ProblemValue) (m : ModelValue) (examples : List Example) → IsProblem problem → Belongs problem m → Learns examples (rule_of problem m) → ReadsBack problem m → ReadsWhole problem m
learned-reads-whole problem m examples p b l back = reads-whole problem m p b (learned-few problem m examples p b l) back
