-- Truth under a set, as a relation and as a computation.
use Rattle.std.proofs.Common.{◌≡◌, ℕ, ◌==◌, ◌||◌, not, true, false, cond, List, [], ◌∷◌, refl, sym, ◌∙◌, ap, arith, subst, eq-eqb, ◌⊎◌, inl, inr}
use Rattle.std.specs.List.{All, Contains}
use Rattle.std.proofs.lemmas.Bool.{false≢true, cases_Bool, or_right}
use Rattle.std.proofs.lemmas.Bool.Decides.{eqb_tells}
use Rattle.std.proofs.lemmas.List.Elements.{All-head, All-tail}
use Rattle.literals_core.specs.Literal.{negation}
use Rattle.literals_core.specs.Truth.{IsTrueUnder, IsFalseUnder, is_true, is_false, open_literals}
use Rattle.literals_core.proofs.Members.{Contains-later, Contains-cases, Contains-none}

-- membership by a test
pub tested_true : (set : List ℕ) (l : ℕ) → is_true set l ≡ true → IsTrueUnder set l
tested_true [] l h = absurd (false≢true h)
tested_true (x ∷ set) l h =
    elim (eqb_tells x l) [
      | inl same ↦ (0, omega arith, same.1)
      | inr other ↦ Contains-later x l set (tested_true set l (sym (ap (λ b. b || is_true set l) other.0) ∙ h))
    ]

pub true_tested : (set : List ℕ) (l : ℕ) → IsTrueUnder set l → is_true set l ≡ true
true_tested [] l h = absurd (Contains-none l h)
true_tested (x ∷ set) l h =
    elim (Contains-cases x l set h) [
      | inl same ↦ ap (λ b. b || is_true set l) (eq-eqb x l same)
      | inr later ↦ or_right (x == l) (is_true set l) (true_tested set l later)
    ]

-- a literal that is not false is open, and one that is false is left out
pub open_more : (set : List ℕ) (x : ℕ) (clause : List ℕ) → is_false set x ≡ false → open_literals set (x ∷ clause) ≡ x ∷ open_literals set clause
open_more set x clause h = ap (λ b. cond (not b) (x ∷ open_literals set clause) (open_literals set clause)) h

pub open_skip : (set : List ℕ) (x : ℕ) (clause : List ℕ) → is_false set x ≡ true → open_literals set (x ∷ clause) ≡ open_literals set clause
open_skip set x clause h = ap (λ b. cond (not b) (x ∷ open_literals set clause) (open_literals set clause)) h

-- each literal of a clause is open or false
pub open_or_false : (set clause : List ℕ) (x : ℕ) → Contains clause x → Contains (open_literals set clause) x ⊎ IsFalseUnder set x
open_or_false set [] x h = absurd (Contains-none x h)
open_or_false set (y ∷ clause) x h =
    let P : List ℕ → Type 0 = λ os. Contains os x in
    elim (Contains-cases y x clause h) [
      | inl here ↦ (elim (cases_Bool (is_false set y)) [
        | inl out ↦ inr (subst (IsFalseUnder set) here (tested_true set (negation y) out))
        | inr stays ↦ inl (subst P (sym (open_more set y clause stays)) (0, omega arith, here))
      ])
      | inr there ↦ (elim (open_or_false set clause x there) [
        | inr out ↦ inr out
        | inl among ↦ (elim (cases_Bool (is_false set y)) [
          | inl out ↦ inl (subst P (sym (open_skip set y clause out)) among)
          | inr stays ↦ inl (subst P (sym (open_more set y clause stays)) (Contains-later y x (open_literals set clause) among))
        ])
      ])
    ]

-- an open literal is of the clause, and not false
pub open_is : (set clause : List ℕ) (x : ℕ) → Contains (open_literals set clause) x → Contains clause x × ¬ IsFalseUnder set x
open_is set [] x h = absurd (Contains-none x h)
open_is set (y ∷ clause) x h =
    let P : List ℕ → Type 0 = λ os. Contains os x in
    elim (cases_Bool (is_false set y)) [
      | inl out ↦ (let later = open_is set clause x (subst P (open_skip set y clause out) h) in (Contains-later y x clause later.0, later.1))
      | inr stays ↦ (elim (Contains-cases y x (open_literals set clause) (subst P (open_more set y clause stays) h)) [
        | inl same ↦ ((0, omega arith, same), λ out. false≢true (sym (sym (ap (is_false set) same) ∙ stays) ∙ true_tested set (negation x) out))
        | inr later ↦ (let rest = open_is set clause x later in (Contains-later y x clause rest.0, rest.1))
      ])
    ]

-- and such a literal is open
pub is_open : (set clause : List ℕ) (x : ℕ) → Contains clause x → ¬ IsFalseUnder set x → Contains (open_literals set clause) x
is_open set clause x among not_false = elim (open_or_false set clause x among) [ inl yes' ↦ yes' | inr out ↦ absurd (not_false out) ]

-- a clause that is all false has no open literal
pub all_false : (set clause : List ℕ) → All (IsFalseUnder set) clause → open_literals set clause ≡ []
all_false set [] all = refl
all_false set (x ∷ clause) all =
    open_skip set x clause (true_tested set (negation x) (All-head (IsFalseUnder set) x clause all)) ∙ all_false set clause (All-tail (IsFalseUnder set) x clause all)
