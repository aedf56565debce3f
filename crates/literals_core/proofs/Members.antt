-- What a list with one more element in front contains.
use Rattle.std.proofs.Common.{◌≡◌, ◌≢◌, ℕ, zero, suc, ◌<◌, ◌≤◌, List, [], ◌∷◌, length, get_or, refl, sym, ◌∙◌, ap, arith, ◌⊎◌, inl, inr}
use Rattle.std.specs.List.{Contains}
use Rattle.std.proofs.lemmas.List.{get_or_default}
use Rattle.std.proofs.lemmas.Bool.{cases_eq}

pub Contains-first : {T : Type 0} (x : T) (xs : List T) → Contains (x ∷ xs) x
Contains-first x xs = (zero, omega arith, refl)

pub Contains-later : {T : Type 0} (y x : T) (xs : List T) → Contains xs x → Contains (y ∷ xs) x
Contains-later y x xs h = (suc h.0, omega (arith, h.1), h.2)

pub Contains-cases : {T : Type 0} (y x : T) (xs : List T) → Contains (y ∷ xs) x → (y ≡ x) ⊎ Contains xs x
Contains-cases y x xs (zero, lt, is) = inl is
Contains-cases y x xs (suc k, lt, is) = inr (k, omega arith, is)

pub Contains-none : {T : Type 0} (x : T) → Contains [] x → ⊥
Contains-none {T} x h = let none : List T = [] in let lt : h.0 < length none = h.1 in omega arith

-- a list of two different elements is as long
pub length-two : (xs : List ℕ) (x y : ℕ) → x ≢ y → Contains xs x → Contains xs y → 2 ≤ length xs
length-two xs x y differ (i, li, ix) (j, lj, jy) = elim (cases_eq i j) [
  | inl same ↦ absurd (differ (sym ix ∙ get_or_default xs i x y li ∙ ap (λ k. get_or xs k y) same ∙ jy))
  | inr apart ↦ omega (arith, apart, li, lj)
]
