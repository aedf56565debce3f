-- Tokens without their texts, as an array of columns, one of kinds, and one of the lengths of the texts.
use Rattle.std.specs.Prelude.{◌≡◌, ◌+◌, ◌≤◌, ℕ, if◌then◌else◌, List, [], ◌∷◌, length, take, drop, slice_index}
use Rattle.std.specs.List.{sum_by}
use Rattle.yaml_tokens.specs.declared.packed.Packed.{Packed}
use Rattle.yaml_tokens.specs.declared.token.TokenKind.{TokenKind}
use Rattle.yaml_tokens.specs.Packed.{has_text}

-- how many texts a kind has
abbrev pub texts_of : TokenKind → ℕ
texts_of kind = if has_text kind then 1 else 0

-- the lengths that a token adds
abbrev pub lens_of : Packed → List ℕ
lens_of p = if has_text p.kind then p.len ∷ [] else []

-- The tokens. One whose kind has a text takes the next length, and any other has the length 0.
abbrev pub packed : List ℕ → List TokenKind → List ℕ → List Packed
packed [] kinds lens = []
packed (column ∷ columns) [] lens = []
packed (column ∷ columns) (kind ∷ kinds) lens =
    record { column = column; kind = kind; len = slice_index (take (texts_of kind) lens) 0 }
    ∷ packed columns kinds (drop (texts_of kind) lens)

-- the arrays fit together, from the first token on that is left
pub record AreArrays (columns : List ℕ) (kinds : List TokenKind) (lens : List ℕ) (taken lens_taken : ℕ) : Type 0 where
  pub as_many : length columns ≡ length kinds
  pub within : taken ≤ length kinds
  pub lens_left : length lens ≡ lens_taken + sum_by texts_of (drop taken kinds)
