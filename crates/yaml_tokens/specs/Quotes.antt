-- Texts in quotes. Each reads the characters after the opening quote, and gives the text and what is left behind the
-- closing one.
use Rattle.std.specs.Prelude.{ℕ, ◌+◌, ◌-◌, ◌*◌, Bool, true, false, ◌&&◌, ◌||◌, ◌==◌, nat_lt, nat_le, if◌then◌else◌, List, [], ◌∷◌, ◌++◌, Option, Some, None, option_map, option_and_then, encode_utf8}

-- a text that was read, and what is left of the line
abbrev pub Reads : Type 0
Reads = Option (List ℕ × List ℕ)

-- the text with more in front
abbrev pub after_front : List ℕ → Reads → Reads
after_front front read = option_map (λ p. (front ++ p.0, p.1)) read

-- Inside single quotes '' means one quote. The test says that a quote came just before.
abbrev pub single_from : Bool → List ℕ → Reads
single_from false [] = None
single_from true [] = Some ([], [])
single_from false (b ∷ bs) = if b == 39 then single_from true bs else after_front (b ∷ []) (single_from false bs)
single_from true (b ∷ bs) = if b == 39 then after_front (39 ∷ []) (single_from false bs) else Some ([], b ∷ bs)

-- a single quote comes next
abbrev pub is_quote_first : List ℕ → Bool
is_quote_first [] = false
is_quote_first (b ∷ bs) = b == 39

-- the value of a hexadecimal digit
abbrev pub hex_value : ℕ → Option ℕ
hex_value b =
    if nat_le 48 b && nat_le b 57 then Some (b - 48)
    else (if nat_le 97 b && nat_le b 102 then Some (b - 87)
    else (if nat_le 65 b && nat_le b 70 then Some (b - 55) else None))

-- the character that an escape of one character means: \0 \a \b \t \n \v \f \r \e \" \/ \\ \space \N \_ \L \P
abbrev pub simple_escape : ℕ → Option ℕ
simple_escape b =
    if b == 48 then Some 0 else (if b == 97 then Some 7 else (if b == 98 then Some 8
    else (if b == 116 then Some 9 else (if b == 110 then Some 10 else (if b == 118 then Some 11
    else (if b == 102 then Some 12 else (if b == 114 then Some 13 else (if b == 101 then Some 27
    else (if b == 34 then Some 34 else (if b == 47 then Some 47 else (if b == 92 then Some 92
    else (if b == 32 then Some 32 else (if b == 78 then Some 133 else (if b == 95 then Some 160
    else (if b == 76 then Some 8232 else (if b == 80 then Some 8233 else None))))))))))))))))

-- how many hexadecimal digits follow \x, \u and \U
abbrev pub hex_count : ℕ → ℕ
hex_count b = if b == 120 then 2 else (if b == 117 then 4 else (if b == 85 then 8 else 0))

-- the number of a character that isn't a surrogate
abbrev pub character : ℕ → Option ℕ
character c = if nat_lt c 55296 || (nat_le 57344 c && nat_lt c 1114112) then Some c else None

-- the text with a character in front, if there is one
abbrev pub after_character : Option ℕ → Reads → Reads
after_character None read = None
after_character (Some c) read = after_front (encode_utf8 c) read

-- Inside double quotes: in the text itself, behind a backslash, or in a number with so many digits to come and a value
-- so far.
pub data Within : Type 0 where
  in_text : Within
  in_escape : Within
  in_number : ℕ → ℕ → Within

abbrev pub double_from : Within → List ℕ → Reads
double_from w [] = None
double_from in_text (b ∷ bs) =
    if b == 34 then Some ([], bs)
    else (if b == 92 then double_from in_escape bs else after_front (b ∷ []) (double_from in_text bs))
double_from in_escape (b ∷ bs) =
    if nat_lt 0 (hex_count b) then double_from (in_number (hex_count b) 0) bs
    else after_character (simple_escape b) (double_from in_text bs)
double_from (in_number n value) (b ∷ bs) = option_and_then
    (λ (h : ℕ).
    if n == 1 then after_character (character (value * 16 + h)) (double_from in_text bs)
    else double_from (in_number (n - 1) (value * 16 + h)) bs)
    (hex_value b)
