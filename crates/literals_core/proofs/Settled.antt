-- Settled clauses, by two different open literals and by a count.
use Rattle.std.proofs.Common.{◌≡◌, ◌≢◌, ℕ, ◌≤◌, ◌==◌, false, List, [], ◌∷◌, length, get_or, sym, ◌∙◌, ap, arith, eq-eqb, inl, inr}
use Rattle.std.specs.List.{Contains, IsDistinct}
use Rattle.std.proofs.lemmas.Bool.{false≢true, cases_Bool}
use Rattle.std.proofs.lemmas.List.Elements.{All-from_recursion, All-contains, Contains-get_or}
use Rattle.std.proofs.lemmas.List.Folds.{Any-from_list_any, list_any-from_Any}
use Rattle.std.proofs.lemmas.Map.Keys.{IsDistinct-tail, IsDistinct-head}
use Rattle.literals_core.specs.Literal.{negation}
use Rattle.literals_core.specs.Truth.{is_true, is_false, open_literals}
use Rattle.literals_core.specs.Settled.{HasTwoOpen, IsSettled, IsSettledByCount}
use Rattle.literals_core.proofs.Members.{Contains-first, Contains-later, length-two}
use Rattle.literals_core.proofs.Truth.{tested_true, true_tested, open_more, open_skip, open_is, is_open}

-- the first literal of distinct ones is none of the others
first_apart : (x : ℕ) (xs : List ℕ) (y : ℕ) → IsDistinct (λ a b. a == b) (x ∷ xs) → Contains xs y → x ≢ y
first_apart x xs y distinct has e =
    let other = All-contains (λ z. (x == z) ≡ false) xs y (All-from_recursion (λ z. (x == z) ≡ false) xs (IsDistinct-head (λ a b. a == b) x xs distinct)) has in
    false≢true (sym other ∙ eq-eqb x y e)

-- an open literal, and an open one after it
two_of : (set : List ℕ) (x : ℕ) (xs : List ℕ) → IsDistinct (λ a b. a == b) (x ∷ xs) → is_false set x ≡ false → 1 ≤ length (open_literals set xs) → HasTwoOpen set (x ∷ xs)
two_of set x xs distinct stays some =
    let other : ℕ = get_or (open_literals set xs) 0 0 in
    let found = open_is set xs other (Contains-get_or (open_literals set xs) 0 0 (omega (arith, some))) in
    record {
      first = x;
      second = other;
      differ = first_apart x xs other distinct found.0;
      among = (Contains-first x xs, Contains-later x other xs found.0);
      not_false = (λ out. false≢true (sym stays ∙ true_tested set (negation x) out), found.1);
    }

two_later : (set : List ℕ) (x : ℕ) (xs : List ℕ) → HasTwoOpen set xs → HasTwoOpen set (x ∷ xs)
two_later set x xs two = record {
  first = two.first;
  second = two.second;
  differ = two.differ;
  among = (Contains-later x two.first xs two.among.0, Contains-later x two.second xs two.among.1);
  not_false = two.not_false;
}

pub two_by_count : (set clause : List ℕ) → IsDistinct (λ x y. x == y) clause → 2 ≤ length (open_literals set clause) → HasTwoOpen set clause
two_by_count set [] distinct two = absurd (omega (arith, two))
two_by_count set (x ∷ xs) distinct two = elim (cases_Bool (is_false set x)) [
  | inl out ↦ (let n = ap length (open_skip set x xs out) in two_later set x xs (two_by_count set xs (IsDistinct-tail (λ a b. a == b) x xs distinct) (omega (arith, n, two))))
  | inr stays ↦ (let n = ap length (open_more set x xs stays) in two_of set x xs distinct stays (omega (arith, n, two)))
]

-- two different ones count as two, whatever occurs twice
pub count_of_two : (set clause : List ℕ) → HasTwoOpen set clause → 2 ≤ length (open_literals set clause)
count_of_two set clause two =
    length-two (open_literals set clause) two.first two.second two.differ
    (is_open set clause two.first two.among.0 two.not_false.0) (is_open set clause two.second two.among.1 two.not_false.1)

pub settled_by_count : (set clause : List ℕ) → IsDistinct (λ x y. x == y) clause → IsSettledByCount set clause → IsSettled set clause
settled_by_count set clause distinct (inl some) = (let a = Any-from_list_any (is_true set) clause some in inl (a.0, a.1, a.2, a.3, tested_true set a.1 a.4))
settled_by_count set clause distinct (inr two) = inr (two_by_count set clause distinct two)

pub count_of_settled : (set clause : List ℕ) → IsSettled set clause → IsSettledByCount set clause
count_of_settled set clause (inl (k, x, lt, is, holds)) = inl (list_any-from_Any (is_true set) clause (k, x, lt, is, true_tested set x holds))
count_of_settled set clause (inr two) = inr (count_of_two set clause two)
