-- Texts as they are written in double quotes.
use Rattle.std.specs.Prelude.{ℕ, ◌+◌, ◌/◌, ◌%◌, Bool, ◌||◌, ◌==◌, nat_lt, if◌then◌else◌, List, [], ◌∷◌, ◌++◌}
use Rattle.std.specs.List.{flat_map}

-- a double quote or a backslash
abbrev pub is_mark : ℕ → Bool
is_mark b = b == 34 || b == 92

-- a control character of ASCII
abbrev pub is_control : ℕ → Bool
is_control b = nat_lt b 32 || b == 127

-- a hexadecimal digit, in upper case
abbrev pub hex_digit : ℕ → ℕ
hex_digit n = if nat_lt n 10 then 48 + n else 55 + n

-- \x and two hexadecimal digits
abbrev pub hex_escape : ℕ → List ℕ
hex_escape b = 92 ∷ 120 ∷ hex_digit (b / 16) ∷ hex_digit (b % 16) ∷ []

-- How a byte is written. Each byte of a character past U+007F is 128 or more, and is written as itself.
abbrev pub spelled : ℕ → List ℕ
spelled b = if is_mark b then 92 ∷ b ∷ [] else (if is_control b then hex_escape b else b ∷ [])

-- a text in double quotes
abbrev pub quoted_text : List ℕ → List ℕ
quoted_text text = 34 ∷ (flat_map spelled text ++ 34 ∷ [])
