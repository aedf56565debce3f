-- Trees as they are written: the lines of such a tree, and what reading makes of it.
use Rattle.std.specs.Prelude.{◌≡◌, ℕ, zero, suc, ◌+◌, Bool, true, false, List, [], ◌∷◌, ◌++◌, map, Option, option_map}
use Rattle.yaml_core.specs.declared.node.Node.{Node}
use Rattle.yaml_core.specs.declared.node.Node.TheVariants as node
use Rattle.yaml_core.specs.Measured.{Measured, leaf, list_node, map_node, Entry}
use Rattle.yaml_core.specs.Reading.{Reading, nothing, gives, ◌>>=◌, naming, node_named}
use Rattle.yaml_core.specs.Tree.{plain_node, adding}
use Rattle.written_core.specs.Document.{Scalar, Word, Text, Start, Item, Key, ItemKey, Value, Blank, One, Flow, Named}
use Rattle.written_core.specs.Document.{Same, DocLine, line, is_key, is_anchor, IsGoodValue, IsUtf8Value}

-- What follows a key or a dash: a value on the same line; nothing more; an entry with its key and value, and
-- the entries after it; an item, and the items after it; or entries or items with an anchor.
pub data Outline : Type 0 where
  Leaf : Value → Outline
  End : Outline
  Under : List ℕ → Outline → Outline → Outline
  Dashed : Outline → Outline → Outline
  Anchored : List ℕ → Outline → Outline

-- a word as it is, and a text in double quotes
abbrev pub word : List ℕ → Outline
word t = Leaf (One (Word t))

abbrev pub quoted : List ℕ → Outline
quoted t = Leaf (One (Text t))

-- items, or an empty flow list if there are none
abbrev pub listed : Outline → Outline
listed End = Leaf (Flow [])
listed (Leaf v) = Leaf v
listed (Under key first more) = Under key first more
listed (Dashed first more) = Dashed first more
listed (Anchored name o) = Anchored name o

-- ---- lines

-- what follows on the line of the key or the dash
abbrev pub behind : Outline → Value
behind (Leaf v) = v
behind End = Blank
behind (Under key first more) = Blank
behind (Dashed first more) = Blank
behind (Anchored name o) = Named name

abbrev pub dashed : Start → Start
dashed Item = Item
dashed (Key key) = ItemKey key
dashed (ItemKey key) = ItemKey key

-- the lines, the first of them behind a dash
abbrev pub put_dash : ℕ → List DocLine → List DocLine
put_dash c [] = []
put_dash c (l ∷ ls) = line c (dashed l.start) l.value ∷ ls

-- an item whose further lines are these: entries begin on the line of the dash
abbrev pub item_lines : ℕ → Outline → List DocLine → List DocLine
item_lines c (Under key first more) own = put_dash c own
item_lines c (Leaf v) own = line c Item v ∷ own
item_lines c End own = line c Item Blank ∷ own
item_lines c (Dashed first more) own = line c Item Blank ∷ own
item_lines c (Anchored name o) own = line c Item (Named name) ∷ own

-- the entries or items at an indentation; their own entries and items are deeper by two
abbrev pub outline_lines : ℕ → Outline → List DocLine
outline_lines c (Leaf v) = []
outline_lines c End = []
outline_lines c (Under key first more) =
    line c (Key key) (behind first) ∷ (outline_lines (c + 2) first ++ outline_lines c more)
outline_lines c (Dashed first more) = item_lines c first (outline_lines (c + 2) first) ++ outline_lines c more
outline_lines c (Anchored name o) = outline_lines c o

-- ---- what may be written

abbrev pub are_entries : Outline → Bool
are_entries End = true
are_entries (Under key first more) = true
are_entries (Leaf v) = false
are_entries (Dashed first more) = false
are_entries (Anchored name o) = false

abbrev pub are_items : Outline → Bool
are_items End = true
are_items (Dashed first more) = true
are_items (Leaf v) = false
are_items (Under key first more) = false
are_items (Anchored name o) = false

-- entries go on with entries and items with items; each key, word and name may be written
abbrev pub IsOutline : Outline → Type 0
IsOutline (Leaf v) = IsGoodValue v
IsOutline End = Unit {0}
IsOutline (Under key first more) =
    ((is_key key ≡ true) × (are_entries more ≡ true)) × (IsOutline first × IsOutline more)
IsOutline (Dashed first more) = (are_items more ≡ true) × (IsOutline first × IsOutline more)
IsOutline (Anchored name o) = (is_anchor name ≡ true) × IsOutline o

-- ---- what reading makes of it

abbrev pub scalar_node : Scalar → Node
scalar_node (Word t) = plain_node t
scalar_node (Text t) = node.Quoted t

abbrev pub scalar_leaf : Scalar → Measured
scalar_leaf s = leaf (scalar_node s)

-- a flow list, whose items have so many levels
abbrev pub flow_meaning : ℕ → List Scalar → Reading Measured
flow_meaning d [] = gives (list_node [])
flow_meaning zero (s ∷ ss) = nothing
flow_meaning (suc d) (s ∷ ss) = gives (list_node (map scalar_leaf (s ∷ ss)))

abbrev pub value_meaning : ℕ → Value → Reading Measured
value_meaning zero v = nothing
value_meaning (suc d) Blank = gives (leaf node.Null)
value_meaning (suc d) (One s) = gives (scalar_leaf s)
value_meaning (suc d) (Flow ss) = flow_meaning d ss
value_meaning (suc d) (Named name) = naming name (leaf node.Null)
value_meaning (suc d) (Same name) = node_named (suc d) name

-- the entries after those before, and the items
abbrev pub entries_by : (Outline → Reading Measured) → List Entry → Outline → Reading (List Entry)
entries_by below before (Under key first more) = below first >>= adding before key >>= λ es. entries_by below es more
entries_by below before End = gives before
entries_by below before (Leaf v) = gives before
entries_by below before (Dashed first more) = gives before
entries_by below before (Anchored name o) = gives before

abbrev pub items_by : (Outline → Reading Measured) → List Measured → Outline → Reading (List Measured)
items_by below before (Dashed first more) = below first >>= λ m. items_by below (before ++ m ∷ []) more
items_by below before End = gives before
items_by below before (Leaf v) = gives before
items_by below before (Under key first more) = gives before
items_by below before (Anchored name o) = gives before

-- the block of its lines
abbrev pub block_of : (Outline → Reading Measured) → Outline → Reading Measured
block_of below (Leaf v) = gives (leaf node.Null)
block_of below End = gives (leaf node.Null)
block_of below (Under key first more) = entries_by below [] (Under key first more) >>= λ es. gives (map_node es)
block_of below (Dashed first more) = items_by below [] (Dashed first more) >>= λ ms. gives (list_node ms)
block_of below (Anchored name o) = block_of below o

abbrev pub meaning_by : ℕ → (Outline → Reading Measured) → Outline → Reading Measured
meaning_by d below (Leaf v) = value_meaning d v
meaning_by d below End = block_of below End
meaning_by d below (Under key first more) = block_of below (Under key first more)
meaning_by d below (Dashed first more) = block_of below (Dashed first more)
meaning_by d below (Anchored name o) = block_of below o >>= naming name

-- the node under a key or behind a dash, of so many levels
unfoldable pub meaning : ℕ → Outline → Reading Measured
meaning zero o = nothing
meaning (suc d) o = meaning_by (suc d) (meaning d) o

-- the tree of a written outline, if it has at most 64 levels
abbrev pub outline_measured : Outline → Option Measured
outline_measured o = option_map (λ p. p.0) (block_of (meaning 63) o [])

-- the texts in double quotes are UTF-8
abbrev pub IsUtf8Outline : Outline → Type 0
IsUtf8Outline (Leaf v) = IsUtf8Value v
IsUtf8Outline End = Unit {0}
IsUtf8Outline (Under key first more) = IsUtf8Outline first × IsUtf8Outline more
IsUtf8Outline (Dashed first more) = IsUtf8Outline first × IsUtf8Outline more
IsUtf8Outline (Anchored name o) = IsUtf8Outline o
