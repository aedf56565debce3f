-- The text of the places of a set, place by place.
use Rattle.std.proofs.Common.{◌≡◌, ℕ, suc, ◌+◌, ◌-◌, ◌/◌, ◌%◌, ◌<◌, ◌≤◌, Bool, true, false, List, [], ◌∷◌, ◌++◌, map, codes, refl, ap, ◌∙◌, arith}
use Rattle.std.specs.Prelude.{◌==◌, decimal, if◌then◌else◌}
use Rattle.std.proofs.lemmas.Bool.Decides.{nat_tests}
use Rattle.std.proofs.lemmas.Nat.{mod_below}
use Rattle.written_core.specs.Parts.{comma, left_text}
use Rattle.written_core.proofs.FlowTexts.{item-left}
use Rattle.model_text_core.specs.ModelText.{places_in, place_word}
use Rattle.model_text_core.specs.Parts.{place_text}

-- what is left of a list of places
abbrev pub places_left : ℕ → ℕ → ℕ → ℕ → List ℕ
places_left written left place rest = left_text written (map place_word (places_in left place rest))

-- the least bit of a number, as it was tested
pub odd-one : (n : ℕ) → (n % 2 == 1) ≡ true → n % 2 ≡ 1
odd-one n e = grind (arith, nat_tests)

pub even-none : (n : ℕ) → n % 2 < 2 → (n % 2 == 1) ≡ false → n % 2 ≡ 0
even-none n low e = grind (arith, nat_tests)

place-step : (written n place rest : ℕ) → places_left written (suc n) place rest ≡ place_text written place rest ++ places_left (written + rest % 2) n (place + 1) (rest / 2)
place-step written n place rest = by_test (rest % 2 == 1) refl
  where
    by_test : (t : Bool) → (rest % 2 == 1) ≡ t
        → left_text written (map place_word (if t then place ∷ places_in n (place + 1) (rest / 2) else places_in n (place + 1) (rest / 2)))
        ≡ (if t then comma written ++ decimal place else []) ++ places_left (written + rest % 2) n (place + 1) (rest / 2)
    by_test true e =
        let more : written + 1 ≡ written + rest % 2 = omega (arith, odd-one rest e) in
        item-left written (place_word place) (map place_word (places_in n (place + 1) (rest / 2)))
        ∙ ap (λ (k : ℕ). (comma written ++ decimal place) ++ places_left k n (place + 1) (rest / 2)) more
    by_test false e =
        let same : written ≡ written + rest % 2 = omega (arith, even-none rest (mod_below rest 2 (omega arith)) e) in
        ap (λ (k : ℕ). places_left k n (place + 1) (rest / 2)) same

-- of so many criteria, one place
pub places-item : (count written place rest : ℕ) → place < count
    → places_left written (count - place) place rest ≡ place_text written place rest ++ places_left (written + rest % 2) (count - (place + 1)) (place + 1) (rest / 2)
places-item count written place rest within =
    let left : count - place ≡ suc (count - (place + 1)) = omega arith in
    ap (λ (k : ℕ). places_left written k place rest) left ∙ place-step written (count - (place + 1)) place rest

-- no criterion is left
pub places-end : (count written place rest : ℕ) → count ≤ place → places_left written (count - place) place rest ≡ codes "]"
places-end count written place rest past =
    let none : count - place ≡ 0 = omega arith in
    ap (λ (k : ℕ). places_left written k place rest) none

-- whether a place is written
pub place-in : (written place rest : ℕ) → rest % 2 ≡ 1 → place_text written place rest ≡ comma written ++ decimal place
place-in written place rest odd =
    let e : (rest % 2 == 1) ≡ true = grind (arith, nat_tests) in
    ap (λ (b : Bool). if b then comma written ++ decimal place else []) e

pub place-out : (written place rest : ℕ) → (rest % 2 ≡ 1 → ⊥) → place_text written place rest ≡ []
place-out written place rest other = by_test (rest % 2 == 1) refl
  where
    by_test : (t : Bool) → (rest % 2 == 1) ≡ t → (if t then comma written ++ decimal place else []) ≡ []
    by_test true e = absurd (other (odd-one rest e))
    by_test false e = refl
