-- Whether keys are distinct.
use Rattle.std.specs.Prelude.{◌≡◌, ℕ, Bool, true, not, ◌&&◌, List, [], ◌∷◌, map}
use Rattle.std.specs.List.{list_any, list_all}
use Rattle.std.specs.Str.{bytes_eq}
use Rattle.yaml_core.specs.declared.node.Node.{Node, fold-Node}
use Rattle.yaml_core.specs.declared.node.Node.TheOpen.{Node-F, Pair-F}

-- no two are equal
abbrev pub are_distinct : List (List ℕ) → Bool
are_distinct [] = true
are_distinct (k ∷ ks) = not (list_any (bytes_eq k) ks) && are_distinct ks

-- a node, from whether what is in it has distinct keys
abbrev pub keys_layer : Node-F Bool (List ℕ × Bool) → Bool
keys_layer (Node-F.Scalar text) = true
keys_layer (Node-F.Quoted text) = true
keys_layer (Node-F.List items) = list_all (λ distinct. distinct) items
keys_layer (Node-F.Map pairs) = are_distinct (map (λ p. p.0) pairs) && list_all (λ p. p.1) pairs
keys_layer Node-F.Null = true

abbrev pub key_layer : Pair-F Bool (List ℕ × Bool) → List ℕ × Bool
key_layer p = (p.key, p.value)

-- whether the keys of each mapping in the tree are pairwise distinct
unfoldable pub has_distinct_keys : Node → Bool
has_distinct_keys n = fold-Node Bool (List ℕ × Bool) keys_layer key_layer n

-- no mapping in the tree has a key twice
abbrev pub HasDistinctKeys : Node → Type 0
HasDistinctKeys n = has_distinct_keys n ≡ true
