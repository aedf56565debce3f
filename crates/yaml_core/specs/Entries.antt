-- Entries that are found by their keys.
use Rattle.std.specs.Prelude.{◌≡◌, ℕ, zero, suc, if◌then◌else◌, List, [], ◌∷◌, Option, Some, None, option_map}
use Rattle.std.specs.Str.{bytes_eq}
use Rattle.std.specs.BTreeMap.{BTreeMap, get_by_text}
use Rattle.std.specs.declared.alloc.Global.{Global}
use Rattle.std.specs.declared.string.String.{String}
use Rattle.yaml_core.specs.Measured.{Entry}

-- the place of the first entry with a key
abbrev pub place_of : List ℕ → List Entry → Option ℕ
place_of key [] = None
place_of key (e ∷ es) = if bytes_eq key e.0 then Some zero else option_map (λ n. suc n) (place_of key es)

-- the map tells where the entry of each key is
abbrev pub IsIndexed : BTreeMap (String Global) ℕ → List Entry → Type 0
IsIndexed map_of es = (key : List ℕ) → get_by_text map_of key ≡ place_of key es
