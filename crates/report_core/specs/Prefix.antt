-- A prefix of a text.
use Rattle.std.specs.Prelude.{◌≡◌, ℕ, List, ◌++◌, Option}
use Rattle.std.specs.Io.KnownBytes.{Appends}

-- the first list begins the second
abbrev pub IsPrefix : List ℕ → List ℕ → Type 0
IsPrefix front bytes = (rest : List ℕ) × (bytes ≡ front ++ rest)

-- a prefix of the bytes was written
pub record AppendsPrefix (old new : Option (List ℕ)) (bytes : List ℕ) : Type 0 where
  pub front : List ℕ
  pub begins : IsPrefix front bytes
  pub went : Appends old new front
