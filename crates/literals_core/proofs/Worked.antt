-- Worked values of the definitions. The literals of variable 3 are 6 and 7.
use Rattle.std.proofs.Common.{◌≡◌, ℕ, Bool, ◌==◌, ◌||◌, not, true, false, [], ◌∷◌, List, refl, sym, ap, subst, ◌∙◌, inl, inr}
use Rattle.std.proofs.lemmas.Bool.{false≢true, cases_Bool}
use Rattle.std.proofs.lemmas.List.Elements.{All-cons, All-nil, All-head, All-tail}
use Rattle.literals_core.specs.Literal.{variable_of, negation}
use Rattle.literals_core.specs.Truth.{is_true, is_false, open_literals}
use Rattle.literals_core.specs.Propagation.{IsGiven, of_set, by_unit}
use Rattle.literals_core.proofs.Members.{Contains-first, Contains-later, Contains-cases, Contains-none}
use Rattle.literals_core.specs.Values.{clause_true, Satisfies, AreUnsatisfiable}

negation_of_three : negation 6 ≡ 7
negation_of_three = refl

and_back : negation 7 ≡ 6
and_back = refl

one_variable : variable_of 6 ≡ variable_of 7
one_variable = refl

other_variable : variable_of 8 ≡ 4
other_variable = refl

-- the set makes 3 true and its negation false, and says nothing of variable 4
three_is_true : is_true (2 ∷ 6 ∷ []) 6 ≡ true
three_is_true = refl

its_negation_is_false : is_false (2 ∷ 6 ∷ []) 7 ≡ true
its_negation_is_false = refl

three_is_not_false : is_false (2 ∷ 6 ∷ []) 6 ≡ false
three_is_not_false = refl

four_is_not_true : is_true (2 ∷ 6 ∷ []) 8 ≡ false
four_is_not_true = refl

four_is_not_false : is_false (2 ∷ 6 ∷ []) 8 ≡ false
four_is_not_false = refl

-- an open literal stays as often as it occurs
open_ones : open_literals (2 ∷ 6 ∷ []) (7 ∷ 8 ∷ 3 ∷ 8 ∷ []) ≡ 8 ∷ 8 ∷ []
open_ones = refl

-- 1 or 2, and not 1: satisfied by the value true of 2 alone
two_alone : ℕ → Bool
two_alone v = v == 2

one_or_two : List (List ℕ)
one_or_two = (2 ∷ 4 ∷ []) ∷ (3 ∷ []) ∷ []

satisfied : Satisfies two_alone one_or_two
unfolding two_alone one_or_two
satisfied =
    let P : List ℕ → Type 0 = λ clause. clause_true two_alone clause ≡ true in
    All-cons P (2 ∷ 4 ∷ []) ((3 ∷ []) ∷ []) refl (All-cons P (3 ∷ []) [] refl (All-nil P))

satisfiable : ¬ AreUnsatisfiable one_or_two
satisfiable none = none two_alone satisfied

-- 1, and not 1: no values satisfy both
one_and_not_one : AreUnsatisfiable ((2 ∷ []) ∷ (3 ∷ []) ∷ [])
one_and_not_one values holds =
    let P : List ℕ → Type 0 = λ clause. clause_true values clause ≡ true in
    let plus = All-head P (2 ∷ []) ((3 ∷ []) ∷ []) holds in
    let minus = All-head P (3 ∷ []) [] (All-tail P (2 ∷ []) ((3 ∷ []) ∷ []) holds) in
    elim (cases_Bool (values 1)) [
      | inl yes' ↦ false≢true (sym (ap (λ b. not b || false) yes') ∙ minus)
      | inr no' ↦ false≢true (sym (ap (λ b. b || false) no') ∙ plus)
    ]

-- 1 or 2, from the negation of 1: unit propagation gives 2
two_is_given : IsGiven ((2 ∷ 4 ∷ []) ∷ []) (3 ∷ []) 4
two_is_given =
    by_unit (Contains-first (2 ∷ 4 ∷ []) []) (Contains-later 2 4 (4 ∷ []) (Contains-first 4 []))
    (λ x among other. elim (Contains-cases 2 x (4 ∷ []) among) [
      | inl first ↦ subst (λ y. IsGiven ((2 ∷ 4 ∷ []) ∷ []) (3 ∷ []) (negation y)) first (of_set (Contains-first 3 []))
      | inr later ↦ (elim (Contains-cases 4 x [] later) [
        | inl second ↦ absurd (other (sym second))
        | inr none ↦ absurd (Contains-none x none)
      ])
    ])
