-- Which texts spell a numeral.
use Rattle.std.specs.Prelude.{◌≡◌, ◌⊎◌, ℕ, ◌+◌, ◌<◌, List, [], ◌∷◌, ◌++◌, length, Bool, true, false}
use Rattle.std.specs.Str.Parse.{AllDigits}
use Rattle.fixed_core.specs.Numeral.{Numeral}

-- `-`, or for a number that is not negative `+` or nothing
abbrev pub IsSign : Bool → List ℕ → Type 0
IsSign true sign = sign ≡ 45 ∷ []
IsSign false sign = (sign ≡ 43 ∷ []) ⊎ (sign ≡ [])

-- a point and the digits after it, which may be none; or nothing
abbrev pub IsFraction : List ℕ → List ℕ → Type 0
IsFraction digits part = (part ≡ 46 ∷ digits) ⊎ ((part ≡ []) × (digits ≡ []))

-- `e` or `E`, a sign, and one digit or more
pub record HasPower (lowers : Bool) (digits part : List ℕ) : Type 0 where
  pub letter : ℕ
  pub sign : List ℕ
  pub is : part ≡ letter ∷ (sign ++ digits)
  pub is_letter : (letter ≡ 101) ⊎ (letter ≡ 69)
  pub is_sign : IsSign lowers sign
  pub some : 0 < length digits

-- an exponent; or nothing, which says 0
abbrev pub IsExponent : Bool → List ℕ → List ℕ → Type 0
IsExponent lowers digits part = HasPower lowers digits part ⊎ ((part ≡ []) × (digits ≡ []) × (lowers ≡ false))

-- the text is a sign, digits with at most one point and at least one digit, an exponent, and nothing else
pub record Spells (text : List ℕ) (n : Numeral) : Type 0 where
  pub sign : List ℕ
  pub point : List ℕ
  pub power : List ℕ
  pub is : text ≡ sign ++ (n.whole ++ (point ++ power))
  pub is_sign : IsSign n.negative sign
  pub is_fraction : IsFraction n.fraction point
  pub is_exponent : IsExponent n.lowers n.exponent power
  pub whole : AllDigits 10 n.whole
  pub fraction : AllDigits 10 n.fraction
  pub exponent : AllDigits 10 n.exponent
  pub some : 0 < length n.whole + length n.fraction
