-- Nodes with their number of levels, in lists and under keys.
use Rattle.std.specs.Prelude.{ℕ, ◌+◌, max, if◌then◌else◌, List, [], ◌∷◌, ◌++◌, map, Option, Some, None, refl}
use Rattle.std.specs.List.{list_any}
use Rattle.std.specs.Str.{bytes_eq}
use Rattle.std.specs.Coded.{Coded, code_by, coded×, coded_ℕ, coded_list}
use Rattle.yaml_core.specs.contracts.node.Node as the_node
use Rattle.yaml_core.specs.declared.node.Node.{Node}
use Rattle.yaml_core.specs.declared.node.Node.TheVariants as node
use Rattle.yaml_core.specs.declared.node.Pair.{Pair, roll-Pair}

-- a node, and how many levels it has
pub record Measured : Type 0 where
  pub node : Node
  pub height : ℕ

abbrev pub measured_code : Coded Measured
measured_code = code_by (Node × ℕ) (coded× the_node.the_row.coded coded_ℕ) (λ m. (m.node, m.height))
    (λ p. record { node = p.0; height = p.1 }) (λ _. refl)

-- a node with nothing in it
abbrev pub leaf : Node → Measured
leaf n = record { node = n; height = 1 }

-- the levels of the highest
abbrev pub highest : List Measured → ℕ
highest [] = 0
highest (m ∷ ms) = max m.height (highest ms)

-- the list of these nodes
abbrev pub list_node : List Measured → Measured
list_node ms = record { node = node.List (map (λ m. m.node) ms); height = 1 + highest ms }

-- a key or a name, and the node under it
abbrev pub Entry : Type 0
Entry = List ℕ × Measured

abbrev pub entry_code : Coded Entry
entry_code = coded× (coded_list coded_ℕ) measured_code

abbrev pub pair : List ℕ → Node → Pair
pair key n = roll-Pair (record { key = key; value = n })

abbrev pub pair_of : Entry → Pair
pair_of e = pair e.0 e.1.node

-- the mapping with these entries
abbrev pub map_node : List Entry → Measured
map_node es = record { node = node.Map (map pair_of es); height = 1 + highest (map (λ e. e.1) es) }

-- the node under a key
abbrev pub find_entry : List ℕ → List Entry → Option Measured
find_entry key [] = None
find_entry key (e ∷ es) = if bytes_eq key e.0 then Some e.1 else find_entry key es

-- the entries with one more, whose key is new
abbrev pub add_entry : List Entry → List ℕ → Measured → Option (List Entry)
add_entry es key m = if list_any (λ e. bytes_eq key e.0) es then None else Some (es ++ (key, m) ∷ [])
