-- How many nodes and levels a tree has, and whether its keys are distinct, by the form of its root.
use Rattle.std.proofs.Common.{◌≡◌, ℕ, ◌+◌, Bool, true, List, [], ◌∷◌, map, refl, ap, sym, ◌∙◌}
use Rattle.std.specs.Prelude.{max, sum, ◌&&◌}
use Rattle.std.specs.List.{list_all}
use Rattle.yaml_core.specs.declared.node.Node.{Node, fold-Node, fold-roll-Node}
use Rattle.yaml_core.specs.declared.node.Node.TheOpen.{Node-F, Pair-F}
use Rattle.yaml_core.specs.declared.node.Node.TheVariants as node
use Rattle.yaml_core.specs.declared.node.Pair.{fold-Pair, fold-roll-Pair}
use Rattle.yaml_core.specs.Measured.{Measured, Entry, pair_of, leaf, list_node, map_node, highest}
use Rattle.yaml_core.specs.Size.{node_count, node_height, count_layer, height_layer, pair_layer, largest}
use Rattle.yaml_core.specs.Keys.{has_distinct_keys, keys_layer, key_layer, are_distinct, HasDistinctKeys}
use Rattle.yaml_core.specs.Kept.{IsSound, AreSound, count_of}

pub map-map : {A B C : Type 0} (f : B → C) (g : A → B) (xs : List A) → map f (map g xs) ≡ map (λ x. f (g x)) xs
map-map f g [] = refl
map-map f g (x ∷ xs) = ap (λ l. f (g x) ∷ l) (map-map f g xs)

-- the entries' values
abbrev pub values_of : List Entry → List Measured
values_of es = map (λ e. e.1) es

-- ---- any fold

module _ {A B : Type 0} (layer : Node-F A B → A) (of_pair : Pair-F A B → B) where
  abbrev fold : Node → A
  fold n = fold-Node A B layer of_pair n

  fold-List : (ns : List Node) → fold (node.List ns) ≡ layer (Node-F.List (map fold ns))
  fold-List ns = ap (λ n. fold n) (sym (node.rolls-List ns)) ∙ fold-roll-Node A B layer of_pair (Node-F.List ns)

  fold-Null : fold node.Null ≡ layer Node-F.Null
  fold-Null = ap (λ n. fold n) (sym node.rolls-Null) ∙ fold-roll-Node A B layer of_pair Node-F.Null

  fold-Scalar : (text : List ℕ) → fold (node.Scalar text) ≡ layer (Node-F.Scalar text)
  fold-Scalar text = ap (λ n. fold n) (sym (node.rolls-Scalar text)) ∙ fold-roll-Node A B layer of_pair (Node-F.Scalar text)

  fold-Quoted : (text : List ℕ) → fold (node.Quoted text) ≡ layer (Node-F.Quoted text)
  fold-Quoted text = ap (λ n. fold n) (sym (node.rolls-Quoted text)) ∙ fold-roll-Node A B layer of_pair (Node-F.Quoted text)

  fold-entry : (e : Entry) → fold-Pair A B layer of_pair (pair_of e) ≡ of_pair (record { key = e.0; value = fold e.1.node })
  fold-entry e = fold-roll-Pair A B layer of_pair (record { key = e.0; value = e.1.node })

  fold-entries : (es : List Entry) → map (fold-Pair A B layer of_pair) (map pair_of es) ≡ map (λ e. of_pair (record { key = e.0; value = fold e.1.node })) es
  fold-entries es = map-map (fold-Pair A B layer of_pair) pair_of es ∙ (λ i. map (λ e. fold-entry e i) es)

  fold-Map : (es : List Entry) → fold (node.Map (map pair_of es)) ≡ layer (Node-F.Map (map (λ e. of_pair (record { key = e.0; value = fold e.1.node })) es))
  fold-Map es = ap (λ n. fold n) (sym (node.rolls-Map (map pair_of es))) ∙ fold-roll-Node A B layer of_pair (Node-F.Map (map pair_of es))
      ∙ ap (λ l. layer (Node-F.Map l)) (fold-entries es)

-- ---- nodes

pub count-Null : node_count node.Null ≡ 1
unfolding node_count
count-Null = fold-Null count_layer pair_layer

pub count-Scalar : (text : List ℕ) → node_count (node.Scalar text) ≡ 1
unfolding node_count
count-Scalar text = fold-Scalar count_layer pair_layer text

pub count-Quoted : (text : List ℕ) → node_count (node.Quoted text) ≡ 1
unfolding node_count
count-Quoted text = fold-Quoted count_layer pair_layer text

pub count-list : (ms : List Measured) → node_count (list_node ms).node ≡ 1 + count_of ms
unfolding node_count
count-list ms = fold-List count_layer pair_layer (map (λ m. m.node) ms) ∙ ap (λ l. 1 + sum l) (map-map (λ n. node_count n) (λ (m : Measured). m.node) ms)

pub count-map : (es : List Entry) → node_count (map_node es).node ≡ 1 + count_of (values_of es)
unfolding node_count
count-map es = fold-Map count_layer pair_layer es ∙ ap (λ l. 1 + sum l) (sym (map-map (λ (m : Measured). node_count m.node) (λ (e : Entry). e.1) es))

-- ---- levels

height-Null : node_height node.Null ≡ 1
unfolding node_height
height-Null = fold-Null height_layer pair_layer

height-Scalar : (text : List ℕ) → node_height (node.Scalar text) ≡ 1
unfolding node_height
height-Scalar text = fold-Scalar height_layer pair_layer text

height-Quoted : (text : List ℕ) → node_height (node.Quoted text) ≡ 1
unfolding node_height
height-Quoted text = fold-Quoted height_layer pair_layer text

abbrev heights : List Measured → List ℕ
heights ms = map (λ m. node_height m.node) ms

height-list : (ms : List Measured) → node_height (list_node ms).node ≡ 1 + largest (heights ms)
unfolding node_height
height-list ms = fold-List height_layer pair_layer (map (λ m. m.node) ms) ∙ ap (λ l. 1 + largest l) (map-map (λ n. node_height n) (λ (m : Measured). m.node) ms)

height-map : (es : List Entry) → node_height (map_node es).node ≡ 1 + largest (heights (values_of es))
unfolding node_height
height-map es = fold-Map height_layer pair_layer es ∙ ap (λ l. 1 + largest l) (sym (map-map (λ (m : Measured). node_height m.node) (λ (e : Entry). e.1) es))

highest-heights : (ms : List Measured) → AreSound ms → highest ms ≡ largest (heights ms)
highest-heights [] s = refl
highest-heights (m ∷ ms) s = λ i. max (s.0.height i) (highest-heights ms s.1 i)

-- ---- keys

keys-Null : HasDistinctKeys node.Null
unfolding has_distinct_keys
keys-Null = fold-Null keys_layer key_layer

keys-Scalar : (text : List ℕ) → HasDistinctKeys (node.Scalar text)
unfolding has_distinct_keys
keys-Scalar text = fold-Scalar keys_layer key_layer text

keys-Quoted : (text : List ℕ) → HasDistinctKeys (node.Quoted text)
unfolding has_distinct_keys
keys-Quoted text = fold-Quoted keys_layer key_layer text

abbrev all_distinct : List Measured → Bool
all_distinct ms = list_all (λ b. b) (map (λ m. has_distinct_keys m.node) ms)

keys-list : (ms : List Measured) → has_distinct_keys (list_node ms).node ≡ all_distinct ms
unfolding has_distinct_keys
keys-list ms = fold-List keys_layer key_layer (map (λ m. m.node) ms) ∙ ap (λ l. list_all (λ b. b) l) (map-map (λ n. has_distinct_keys n) (λ (m : Measured). m.node) ms)

AreSound-distinct : (ms : List Measured) → AreSound ms → all_distinct ms ≡ true
AreSound-distinct [] s = refl
AreSound-distinct (m ∷ ms) s = λ i. s.0.keys i && AreSound-distinct ms s.1 i

abbrev keyed : List Entry → List (List ℕ × Bool)
keyed es = map (λ e. (e.0, has_distinct_keys e.1.node)) es

keys-map : (es : List Entry) → has_distinct_keys (map_node es).node ≡ (are_distinct (map (λ p. p.0) (keyed es)) && list_all (λ p. p.1) (keyed es))
unfolding has_distinct_keys
keys-map es = fold-Map keys_layer key_layer es

AreSound-keyed : (es : List Entry) → AreSound (values_of es) → list_all (λ p. p.1) (keyed es) ≡ true
AreSound-keyed [] s = refl
AreSound-keyed (e ∷ es) s = λ i. s.0.keys i && AreSound-keyed es s.1 i

-- ---- all of it

pub IsSound-Null : IsSound (leaf node.Null)
IsSound-Null = record { height = sym height-Null; keys = keys-Null }

pub IsSound-Scalar : (text : List ℕ) → IsSound (leaf (node.Scalar text))
IsSound-Scalar text = record { height = sym (height-Scalar text); keys = keys-Scalar text }

pub IsSound-Quoted : (text : List ℕ) → IsSound (leaf (node.Quoted text))
IsSound-Quoted text = record { height = sym (height-Quoted text); keys = keys-Quoted text }

pub IsSound-list : (ms : List Measured) → AreSound ms → IsSound (list_node ms)
IsSound-list ms s = record {
  height = ap (λ h. 1 + h) (highest-heights ms s) ∙ sym (height-list ms);
  keys = keys-list ms ∙ AreSound-distinct ms s;
}

pub IsSound-map : (es : List Entry) → AreSound (values_of es) → are_distinct (map (λ e. e.0) es) ≡ true → IsSound (map_node es)
IsSound-map es s distinct = record {
  height = ap (λ h. 1 + h) (highest-heights (values_of es) s) ∙ sym (height-map es);
  keys = keys-map es ∙ (λ i. are_distinct (map-map (λ (p : List ℕ × Bool). p.0) (λ (e : Entry). (e.0, has_distinct_keys e.1.node)) es i) && AreSound-keyed es s i) ∙ ap (λ b. b && true) distinct;
}
