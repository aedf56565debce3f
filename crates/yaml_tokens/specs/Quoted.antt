-- What the readers of quoted texts give.
use Rattle.std.specs.Prelude.{◌≡◌, ℕ, ◌+◌, ◌<◌, ◌≤◌, ◌-◌, true, ◌==◌, if◌then◌else◌, List, take, drop, length, slice_index, encode_utf8, Option, Some, None, Result, Ok, Err}
use Rattle.std.specs.Str.{IsCharBoundary}
use Rattle.yaml_tokens.specs.declared.fault.TokenFault.{TokenFault}
use Rattle.yaml_tokens.specs.Results.{FailsAs}
use Rattle.yaml_tokens.specs.Quotes.{Reads, after_front, after_character, character, single_from, double_from, in_text, in_number}

-- a text, and how many bytes it takes
abbrev pub ReadsText : List ℕ → Result (List ℕ × ℕ) TokenFault → Reads → Type 0
ReadsText s (Ok p) meant = (meant ≡ Some (p.0, drop p.1 s)) × (p.1 ≤ length s) × IsCharBoundary s p.1
ReadsText s (Err e) meant = FailsAs e meant

-- the text up to a quote, and on behind it
abbrev pub up_to_single : List ℕ → Option ℕ → Reads
up_to_single s None = None
up_to_single s (Some n) = after_front (take n s) (single_from true (drop (n + 1) s))

-- the text up to a quote or a backslash, and on from it
abbrev pub up_to_double : List ℕ → Option ℕ → Reads
up_to_double s None = None
up_to_double s (Some n) = after_front (take n s) (double_from in_text (drop n s))

-- the character of an escape, and on behind its bytes
abbrev pub up_to_escape : List ℕ → Option (ℕ × ℕ) → Reads
up_to_escape s None = None
up_to_escape s (Some p) = after_front (encode_utf8 p.0) (double_from in_text (drop p.1 s))

-- so many bytes end at an ASCII one
abbrev pub EndsAscii : List ℕ → ℕ → Type 0
EndsAscii s n = (0 < n) × (n ≤ length s) × (slice_index s (n - 1) < 128)

-- what a number means, with so many digits to come
abbrev pub digits_from : ℕ → ℕ → List ℕ → Reads
digits_from left value s =
    if left == 0 then after_character (character value) (double_from in_text s)
    else double_from (in_number left value) s
