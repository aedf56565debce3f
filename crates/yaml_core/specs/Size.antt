-- How many nodes a tree has, and how many levels.
use Rattle.std.specs.Prelude.{ℕ, ◌+◌, max, sum, List, [], ◌∷◌}
use Rattle.yaml_core.specs.declared.node.Node.{Node, fold-Node}
use Rattle.yaml_core.specs.declared.node.Node.TheOpen.{Node-F, Pair-F}

-- a node from the counts of what is in it: each node counts, keys don't
abbrev pub count_layer : Node-F ℕ ℕ → ℕ
count_layer (Node-F.Scalar text) = 1
count_layer (Node-F.Quoted text) = 1
count_layer (Node-F.List counts) = 1 + sum counts
count_layer (Node-F.Map counts) = 1 + sum counts
count_layer Node-F.Null = 1

abbrev pub pair_layer : Pair-F ℕ ℕ → ℕ
pair_layer p = p.value

-- the most nodes of a tree
abbrev pub most_nodes : ℕ
most_nodes = 16777216

-- how many nodes a tree has
unfoldable pub node_count : Node → ℕ
node_count n = fold-Node ℕ ℕ count_layer pair_layer n

abbrev pub largest : List ℕ → ℕ
largest [] = 0
largest (n ∷ ns) = max n (largest ns)

-- a node from the levels of what is in it
abbrev pub height_layer : Node-F ℕ ℕ → ℕ
height_layer (Node-F.Scalar text) = 1
height_layer (Node-F.Quoted text) = 1
height_layer (Node-F.List heights) = 1 + largest heights
height_layer (Node-F.Map heights) = 1 + largest heights
height_layer Node-F.Null = 1

-- how many levels a tree has
unfoldable pub node_height : Node → ℕ
node_height n = fold-Node ℕ ℕ height_layer pair_layer n
