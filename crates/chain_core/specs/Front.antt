-- The word at the front of a text, as a reader finds it.
use Rattle.std.specs.Prelude.{ℕ, ◌+◌, ◌≤◌, ◌≡◌, nat_lt, List, [], ◌∷◌, Option, Some, None, length, take, drop}
use Rattle.std.specs.Prelude.{if◌then◌else◌}
use Rattle.chain_core.specs.Reading.{words_of}

-- the words after a first word of n bytes
abbrev pub words_after : ℕ → List ℕ → List (List ℕ)
words_after n text = if nat_lt n (length text) then words_of (drop (n + 1) text) else []

-- the first word is the first n bytes, and is read as this value
pub record StartsWith (read : List ℕ → Option ℕ) (text : List ℕ) (value n : ℕ) : Type 0 where
  pub within : n ≤ length text
  pub words : words_of text ≡ take n text ∷ words_after n text
  pub is : read (take n text) ≡ Some value

-- the first word is not read
abbrev pub StartsWithOther : (List ℕ → Option ℕ) → List ℕ → Type 0
StartsWithOther read text =
    (word : List ℕ) × ((words : List (List ℕ)) × (words_of text ≡ word ∷ words) × (read word ≡ None))
