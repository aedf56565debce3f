-- The one spelling of a number, by its looks.
use Rattle.std.specs.Prelude.{◌≡◌, ◌≢◌, ℕ, ◌≤◌, List, [], ◌∷◌, ◌++◌, length, Bool, true}
use Rattle.std.specs.Str.Parse.{AllDigits}
use Rattle.fixed_core.specs.Spelling.{sign_text}

-- one digit or more, with a zero in front only if it is the one digit
abbrev pub IsWholePart : List ℕ → Type 0
IsWholePart [] = ⊥
IsWholePart (d ∷ ds) = AllDigits 10 (d ∷ ds) × (d ≡ 48 → ds ≡ [])

-- a point and digits, or nothing without digits
abbrev pub point_text : List ℕ → List ℕ
point_text [] = []
point_text (d ∷ ds) = 46 ∷ d ∷ ds

-- digits of which the last is no zero
abbrev pub EndsInNoZero : List ℕ → Type 0
EndsInNoZero digits = (front : List ℕ) → digits ≢ front ++ 48 ∷ []

-- no needless sign, zero or point
pub record IsCanonical (text : List ℕ) : Type 0 where
  pub negative : Bool
  pub whole : List ℕ
  pub fraction : List ℕ
  pub is : text ≡ sign_text negative ++ (whole ++ point_text fraction)
  pub is_whole : IsWholePart whole
  pub digits : AllDigits 10 fraction
  pub few : length fraction ≤ 18
  pub ends : EndsInNoZero fraction
  pub no_minus_zero : negative ≡ true → whole ≡ 48 ∷ [] → fraction ≢ []
