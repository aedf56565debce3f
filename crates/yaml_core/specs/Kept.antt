-- What is kept of nodes while they are built.
use Rattle.std.specs.Prelude.{◌≡◌, ◌⊎◌, ℕ, true, ◌<◌, ◌-◌, ◌^◌, min, List, [], ◌∷◌, ◌++◌, map, sum, Option, Some, None}
use Rattle.std.specs.List.{list_any}
use Rattle.std.specs.Str.{bytes_eq}
use Rattle.std.specs.BTreeSet.{BTreeSet, contains_text}
use Rattle.std.specs.declared.alloc.Global.{Global}
use Rattle.std.specs.declared.string.String.{String}
use Rattle.yaml_core.specs.declared.node.Node.{Node}
use Rattle.yaml_core.specs.declared.node.Pair.{Pair}
use Rattle.yaml_core.specs.Measured.{Measured, Entry, pair_of, highest}
use Rattle.yaml_core.specs.Size.{node_count, node_height, most_nodes}
use Rattle.yaml_core.specs.Keys.{are_distinct, HasDistinctKeys}

-- it is the whole, unless it is left out since there are too many nodes
abbrev pub IsKept : {A : Type 0} → Option A → ℕ → A → Type 0
IsKept None count whole = most_nodes < count
IsKept (Some a) count whole = a ≡ whole

-- what is kept of a list with one more item: all of it, or nothing
abbrev pub KeepsMore : {A : Type 0} → Option (List A) → Option A → Option (List A) → Type 0
KeepsMore all more None = Unit {0}
KeepsMore (Some before) (Some a) (Some after) = after ≡ before ++ a ∷ []
KeepsMore all more (Some after) = ⊥

-- why a list with one more item is left out: one of them was, or there are too many nodes
abbrev pub IsLeftOut : {A : Type 0} → Option (List A) → Option A → ℕ → Type 0
IsLeftOut all more nodes = (all ≡ None) ⊎ ((more ≡ None) ⊎ (most_nodes < nodes))

-- the last numbers of 8 and of 32 bits
abbrev pub last_u8 : ℕ
last_u8 = 2 ^ 8 - 1

abbrev pub last_u32 : ℕ
last_u32 = 2 ^ 32 - 1

-- a number of levels, which stops at its last value
abbrev pub levels_up_to : ℕ → ℕ
levels_up_to n = min n last_u8

-- a number of nodes, which stops at its last value
abbrev pub nodes_up_to : ℕ → ℕ
nodes_up_to n = min n last_u32

-- how many nodes these have
abbrev pub count_of : List Measured → ℕ
count_of ms = sum (map (λ m. node_count m.node) ms)

-- the levels are those of the node, and no mapping in it has a key twice
pub record IsSound (m : Measured) : Type 0 where
  pub height : m.height ≡ node_height m.node
  pub keys : HasDistinctKeys m.node

abbrev pub AreSound : List Measured → Type 0
AreSound [] = Unit {0}
AreSound (m ∷ ms) = IsSound m × AreSound ms

-- a value's levels, nodes and node are those of what it means
pub record KeepsNode (held : Option Node) (height count : ℕ) (m : Measured) : Type 0 where
  pub node : IsKept held count m.node
  pub levels : height ≡ levels_up_to m.height
  pub nodes : count ≡ nodes_up_to (node_count m.node)
  pub sound : IsSound m

-- the same of nodes in a list or under keys; the whole is what is made of them
pub record KeepsNodes {A : Type 0} (held : Option A) (height count : ℕ) (whole : A) (ms : List Measured) : Type 0 where
  pub all : IsKept held count whole
  pub levels : height ≡ levels_up_to (highest ms)
  pub nodes : count ≡ nodes_up_to (count_of ms)
  pub sound : AreSound ms

-- the pairs of a mapping are those of its entries, and the set has their keys, of which no two are equal
pub record KeepsEntries (held : Option (List Pair)) (keys : BTreeSet (String Global)) (height count : ℕ)
    (es : List Entry) : Type 0 where
  pub pairs : KeepsNodes held height count (map pair_of es) (map (λ e. e.1) es)
  pub contains : (key : List ℕ) → contains_text keys key ≡ list_any (λ e. bytes_eq key e.0) es
  pub distinct : are_distinct (map (λ e. e.0) es) ≡ true
