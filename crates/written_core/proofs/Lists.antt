-- What reading makes of lists in an outline, and how many nodes it makes.
use Rattle.std.proofs.Common.{◌≡◌, ℕ, suc, ◌+◌, Bool, true, false, if◌then◌else◌, List, [], ◌∷◌, ◌++◌, length, map, refl, ap, ◌∙◌, arith, append_assoc, Some}
use Rattle.std.proofs.lemmas.List.Sums.{sum_by-cons}
use Rattle.yaml_core.specs.declared.node.Node.{Node}
use Rattle.yaml_core.specs.declared.node.Node.TheVariants as node
use Rattle.yaml_core.specs.Kept.{count_of}
use Rattle.yaml_core.specs.Measured.{Measured, list_node}
use Rattle.yaml_core.specs.Reading.{Names, Reading, gives, and_then}
use Rattle.yaml_core.specs.Size.{node_count}
use Rattle.yaml_core.specs.Tree.{is_null_word}
use Rattle.yaml_core.proofs.MeasureLemmas.{count-Null, count-Scalar, count-Quoted, count-list}
use Rattle.written_core.specs.Document.{Scalar, Word, Text, Flow}
use Rattle.written_core.specs.Outline.{Outline, Leaf, End, Under, Dashed, Anchored, listed, are_items, IsOutline, IsUtf8Outline, scalar_node, scalar_leaf, items_by, meaning}

abbrev pub word_leaf : List ℕ → Measured
word_leaf t = scalar_leaf (Word t)

abbrev pub quoted_leaf : List ℕ → Measured
quoted_leaf t = scalar_leaf (Text t)

-- ---- what it makes

pub flow-meant : (d : ℕ) (ss : List Scalar) (names : Names) → meaning (suc (suc d)) (Leaf (Flow ss)) names ≡ Some (list_node (map scalar_leaf ss), names)
unfolding meaning
flow-meant d [] names = refl
flow-meant d (s ∷ ss) names = refl

-- items, or the empty list
pub listed-meant : (d : ℕ) (o : Outline) (ms : List Measured) (names after : Names) → are_items o ≡ true → items_by (meaning (suc d)) [] o names ≡ Some (ms, after)
    → meaning (suc (suc d)) (listed o) names ≡ Some (list_node ms, after)
unfolding meaning
listed-meant d (Leaf v) ms names after h e = absurd (cc)
listed-meant d (Under key first more) ms names after h e = absurd (cc)
listed-meant d (Anchored name o) ms names after h e = absurd (cc)
listed-meant d End ms names after h e = ap (and_then (λ ns. gives (list_node ns))) e
listed-meant d (Dashed first more) ms names after h e = ap (and_then (λ ns. gives (list_node ns))) e

-- one more item
pub item-then : (below : Outline → Reading Measured) (before : List Measured) (first more : Outline) (m : Measured) (ms : List Measured) (names mid after : Names) → below first names ≡ Some (m, mid)
    → items_by below (before ++ m ∷ []) more mid ≡ Some ((before ++ m ∷ []) ++ ms, after) → items_by below before (Dashed first more) names ≡ Some (before ++ m ∷ ms, after)
item-then below before first more m ms names mid after e f =
    ap (and_then (λ n. items_by below (before ++ n ∷ []) more)) e ∙ f ∙ ap (λ (ns : List Measured). Some (ns, after)) (append_assoc before (m ∷ []) ms)

-- the nodes of scalars
pub nodes-scalars : {X : Type 0} (f : X → Scalar) (xs : List X) → map (λ m. m.node) (map scalar_leaf (map f xs)) ≡ map (λ x. scalar_node (f x)) xs
nodes-scalars f [] = refl
nodes-scalars f (x ∷ xs) = ap (λ (ns : List Node). scalar_node (f x) ∷ ns) (nodes-scalars f xs)

-- ---- what may be written

pub listed-good : (o : Outline) → IsOutline o → IsOutline (listed o)
listed-good End h = tt
listed-good (Leaf v) h = h
listed-good (Under key first more) h = h
listed-good (Dashed first more) h = h
listed-good (Anchored name o) h = h

pub listed-utf8 : (o : Outline) → IsUtf8Outline o → IsUtf8Outline (listed o)
listed-utf8 End h = tt
listed-utf8 (Leaf v) h = h
listed-utf8 (Under key first more) h = h
listed-utf8 (Dashed first more) h = h
listed-utf8 (Anchored name o) h = h

-- ---- how many nodes

-- the nodes of a list, from those of its first
pub count-more : (m : Measured) (ms : List Measured) → count_of (m ∷ ms) ≡ node_count m.node + count_of ms
count-more m ms = sum_by-cons (λ n. n) (node_count m.node) (map (λ x. node_count x.node) ms)

pub scalar-count : (s : Scalar) → node_count (scalar_node s) ≡ 1
scalar-count (Text t) = count-Quoted t
scalar-count (Word t) = by_test (is_null_word t)
  where
    by_test : (b : Bool) → node_count (if b then node.Null else node.Scalar t) ≡ 1
    by_test true = count-Null
    by_test false = count-Scalar t

scalars-count : (ss : List Scalar) → count_of (map scalar_leaf ss) ≡ length ss
scalars-count [] = refl
scalars-count (s ∷ ss) =
    let whole = count-more (scalar_leaf s) (map scalar_leaf ss) in
    let one = scalar-count s in
    let more = scalars-count ss in
    omega (arith, whole, one, more)

-- a flow list of scalars
pub flow-count : (ss : List Scalar) → node_count (list_node (map scalar_leaf ss)).node ≡ 1 + length ss
flow-count ss = count-list (map scalar_leaf ss) ∙ ap (λ n. 1 + n) (scalars-count ss)
