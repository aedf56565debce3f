-- What a number text says, computed.
use Rattle.std.specs.Prelude.{ℕ, ◌+◌, List, [], ◌∷◌, take, drop, length, Bool, false, not, ◌==◌, ◌&&◌, ◌||◌, nat_lt}
use Rattle.std.specs.Prelude.{Option, Some, None, option_map, unwrap_or, position, if◌then◌else◌}
use Rattle.std.specs.List.{list_all}
use Rattle.std.specs.Char.{is_ascii_digit}

-- the digits at the front of a text, and what follows them
abbrev pub digits_len : List ℕ → ℕ
digits_len text = unwrap_or (position (λ c. not (is_ascii_digit c)) text) (length text)

abbrev pub front_digits : List ℕ → List ℕ
front_digits text = take (digits_len text) text

abbrev pub after_digits : List ℕ → List ℕ
after_digits text = drop (digits_len text) text

-- whether a text begins with `-`, and what follows an optional sign
abbrev pub is_minus : List ℕ → Bool
is_minus [] = false
is_minus (c ∷ rest) = c == 45

abbrev pub after_sign : List ℕ → List ℕ
after_sign [] = []
after_sign (c ∷ rest) = if (c == 45) || (c == 43) then rest else c ∷ rest

-- the digits after a point at the front, and what follows them
abbrev pub fraction_digits : List ℕ → List ℕ
fraction_digits [] = []
fraction_digits (c ∷ rest) = if c == 46 then front_digits rest else []

abbrev pub after_fraction : List ℕ → List ℕ
after_fraction [] = []
after_fraction (c ∷ rest) = if c == 46 then after_digits rest else c ∷ rest

-- whether an exponent is negative, and its digits: the text is `e` or `E`, a sign and digits, or
-- empty, which says 0
abbrev pub exponent_of : List ℕ → Option (Bool × List ℕ)
exponent_of [] = Some (false, [])
exponent_of (c ∷ rest) =
    if ((c == 101) || (c == 69)) && nat_lt 0 (length (after_sign rest))
    && list_all is_ascii_digit (after_sign rest) then Some (is_minus rest, after_sign rest)
    else None

-- what a number text says: a sign, the digits before and after the point, whether the exponent is negative, and its
-- digits
pub record Numeral : Type 0 where
  pub negative : Bool
  pub whole : List ℕ
  pub fraction : List ℕ
  pub lowers : Bool
  pub exponent : List ℕ

-- the numeral of a body, which is a text after its sign
unfoldable pub numeral_of_body : Bool → List ℕ → Option Numeral
numeral_of_body negative body =
    if length (front_digits body) + length (fraction_digits (after_digits body)) == 0 then None
    else option_map
    (λ e. record {
      negative = negative;
      whole = front_digits body;
      fraction = fraction_digits (after_digits body);
      lowers = e.0;
      exponent = e.1;
    }) (exponent_of (after_fraction (after_digits body)))

-- a text as a numeral, if it is one
unfoldable pub numeral_of : List ℕ → Option Numeral
numeral_of text = numeral_of_body (is_minus text) (after_sign text)
