-- Files in memory, the newest first.
use Rattle.std.specs.Prelude.{◌≡◌, ◌∷◌, ℕ, List, [], Option, None, Some, if◌then◌else◌, slice_get, unwrap_or, Bool}
use Rattle.std.specs.Option.{option_map, option_and_then}
use Rattle.std.specs.Str.{bytes_eq}
use Rattle.std.specs.String.{string_bytes}
use Rattle.edge_core.specs.declared.held.HeldFile.{HeldFile}
use Rattle.edge_core.specs.Outside.{Files}

-- the file has this name
abbrev pub is_named : List ℕ → HeldFile → Bool
is_named name file = bytes_eq (string_bytes file.name) name

-- the bytes of the newest file of a name
abbrev pub held_in : List HeldFile → List ℕ → Option (List ℕ)
held_in [] name = None
held_in (file ∷ files) name = if is_named name file then Some file.bytes.items else held_in files name

-- these bytes are held under this name, and every other name as before
abbrev pub Holds : Files → Files → List ℕ → List ℕ → Type 0
Holds old new name bytes = (other : List ℕ) → new other ≡ (if bytes_eq name other then Some bytes else old other)

-- the bytes of the file at a place
abbrev pub bytes_at : List HeldFile → ℕ → Option (List ℕ)
bytes_at files i = option_map (λ file. file.bytes.items) (slice_get files i)

-- the bytes of the file at a place, and none without a place or a file
abbrev pub bytes_of_place : List HeldFile → Option ℕ → List ℕ
bytes_of_place files place = unwrap_or (option_and_then (bytes_at files) place) []
