-- What is kept of nodes while they are built.
use Rattle.std.proofs.Common.{◌≡◌, ℕ, ◌+◌, ◌<◌, ◌≤◌, inl, inr, true, List, [], ◌∷◌, ◌++◌, map, refl, ap, sym, ◌∙◌, arith, Option, Some, None}
use Rattle.std.specs.Prelude.{min, max, sum, option_map}
use Rattle.std.proofs.lemmas.List.{map-append}
use Rattle.std.proofs.lemmas.List.Sums.{sum_by_push}
use Rattle.yaml_core.specs.declared.node.Node.{Node}
use Rattle.yaml_core.specs.declared.node.Node.TheVariants as node
use Rattle.yaml_core.specs.declared.node.Pair.{Pair}
use Rattle.yaml_core.specs.Measured.{Measured, Entry, pair, pair_of, leaf, list_node, map_node, highest}
use Rattle.yaml_core.specs.Size.{node_count, most_nodes}
use Rattle.yaml_core.specs.Keys.{are_distinct}
use Rattle.yaml_core.specs.Kept.{IsKept, IsLeftOut, KeepsMore, KeepsNode, KeepsNodes, IsSound, AreSound, count_of, levels_up_to, nodes_up_to, last_u8, last_u32}
use Rattle.yaml_core.proofs.MeasureLemmas.{count-Null, count-Scalar, count-Quoted, count-list, count-map, values_of, IsSound-Null, IsSound-Scalar, IsSound-Quoted, IsSound-list, IsSound-map}

-- ---- leaves

keeps-leaf : (n : Node) → node_count n ≡ 1 → IsSound (leaf n) → KeepsNode (Some n) 1 1 (leaf n)
keeps-leaf n one sound = record { node = refl; levels = refl; nodes = sym (ap nodes_up_to one); sound = sound }

pub keeps-Null : KeepsNode (Some node.Null) 1 1 (leaf node.Null)
keeps-Null = keeps-leaf node.Null count-Null IsSound-Null

pub keeps-Scalar : (text : List ℕ) → KeepsNode (Some (node.Scalar text)) 1 1 (leaf (node.Scalar text))
keeps-Scalar text = keeps-leaf (node.Scalar text) (count-Scalar text) (IsSound-Scalar text)

pub keeps-Quoted : (text : List ℕ) → KeepsNode (Some (node.Quoted text)) 1 1 (leaf (node.Quoted text))
keeps-Quoted text = keeps-leaf (node.Quoted text) (count-Quoted text) (IsSound-Quoted text)

-- ---- lists and mappings

IsKept-map : {A B : Type 0} {c d : ℕ} (f : A → B) (held : Option A) (whole : A) → c ≤ d → IsKept held c whole → IsKept (option_map f held) d (f whole)
IsKept-map f None whole l k = omega arith
IsKept-map f (Some a) whole l k = ap f k

-- one more is not fewer
more-nodes : (limit n k : ℕ) → n ≡ min k limit → n ≤ min (n + 1) limit
more-nodes limit n k e = omega arith

-- one more, where both stand still at the same last value
more-up_to : (limit n k : ℕ) → 1 ≤ limit → n ≡ min k limit → min (n + 1) limit ≡ min (1 + k) limit
more-up_to limit n k some e = omega arith

pub keeps-list : {h c : ℕ} (held : Option (List Node)) (ms : List Measured) → KeepsNodes held h c (map (λ m. m.node) ms) ms
    → KeepsNode (option_map (λ ns. node.List ns) held) (min (h + 1) last_u8) (min (c + 1) last_u32) (list_node ms)
keeps-list {h} {c} held ms k = record {
  node = IsKept-map (λ ns. node.List ns) held (map (λ m. m.node) ms) (more-nodes last_u32 c (count_of ms) k.nodes) k.all;
  levels = more-up_to last_u8 h (highest ms) (omega arith) k.levels;
  nodes = more-up_to last_u32 c (count_of ms) (omega arith) k.nodes ∙ ap nodes_up_to (sym (count-list ms));
  sound = IsSound-list ms k.sound;
}

pub keeps-map : {h c : ℕ} (held : Option (List Pair)) (es : List Entry) → KeepsNodes held h c (map pair_of es) (values_of es) → are_distinct (map (λ e. e.0) es) ≡ true
    → KeepsNode (option_map (λ ps. node.Map ps) held) (min (h + 1) last_u8) (min (c + 1) last_u32) (map_node es)
keeps-map {h} {c} held es k distinct = record {
  node = IsKept-map (λ ps. node.Map ps) held (map pair_of es) (more-nodes last_u32 c (count_of (values_of es)) k.nodes) k.all;
  levels = more-up_to last_u8 h (highest (values_of es)) (omega arith) k.levels;
  nodes = more-up_to last_u32 c (count_of (values_of es)) (omega arith) k.nodes ∙ ap nodes_up_to (sym (count-map es));
  sound = IsSound-map es k.sound distinct;
}

-- ---- one more

-- what is not there was left out
many : {A : Type 0} {c : ℕ} (held : Option A) (whole : A) → IsKept held c whole → held ≡ None → most_nodes < c
many None whole k e = k
many (Some a) whole k e = absurd (cc)

-- one more is kept, or left out since there are too many nodes by then
kept-more : {A : Type 0} {c d n : ℕ} (held after : Option (List A)) (more : Option A) (whole : List A) (one : A) → c ≤ n → d ≤ n
    → IsKept held c whole → IsKept more d one → KeepsMore held more after → (after ≡ None → IsLeftOut held more n) → IsKept after n (whole ++ one ∷ [])
kept-more {c = c} {d = d} {n = n} held None more whole one p q k l m out =
    elim (out refl) [
      | inl none ↦ let h : most_nodes < c = many held whole k none in omega arith
      | inr other ↦ elim other [ inl none ↦ (let h : most_nodes < d = many more one l none in omega arith) | inr over ↦ over ]
    ]
kept-more None (Some x) None whole one p q k l m out = absurd m
kept-more None (Some x) (Some a) whole one p q k l m out = absurd m
kept-more (Some b) (Some x) None whole one p q k l m out = absurd m
kept-more (Some b) (Some x) (Some a) whole one p q k l m out = m ∙ (λ i. k i ++ l i ∷ [])

-- a sum that stops at a last value is not less than its parts
sum-nodes : (limit c d m n : ℕ) → c ≡ min m limit → d ≡ min n limit → (c ≤ min (d + c) limit) × (d ≤ min (d + c) limit)
sum-nodes limit c d m n e f = (omega arith, omega arith)

highest-push : (ms : List Measured) (m : Measured) → highest (ms ++ m ∷ []) ≡ max (highest ms) m.height
highest-push [] m = omega arith
highest-push (n ∷ ms) m = omega (arith, highest-push ms m)

count-push : (ms : List Measured) (m : Measured) → count_of (ms ++ m ∷ []) ≡ count_of ms + node_count m.node
count-push ms m =
    let count = λ (n : Measured). node_count n.node in
    ap sum (map-append count ms (m ∷ [])) ∙ sum_by_push (λ n. n) (map count ms) (count m)

AreSound-push : (ms : List Measured) (m : Measured) → AreSound ms → IsSound m → AreSound (ms ++ m ∷ [])
AreSound-push [] m s t = (t, tt)
AreSound-push (n ∷ ms) m s t = (s.0, AreSound-push ms m s.1 t)

max-up_to : (limit h k m n : ℕ) → h ≡ min m limit → k ≡ min n limit → max h k ≡ min (max m n) limit
max-up_to limit h k m n e f = omega arith

sum-up_to : (limit c d m n : ℕ) → c ≡ min m limit → d ≡ min n limit → min (d + c) limit ≡ min (m + n) limit
sum-up_to limit c d m n e f = omega arith

pub keeps-push : {A : Type 0} {h c k d : ℕ} (held after : Option (List A)) (more : Option A) (whole : List A) (one : A) (ms : List Measured) (m : Measured)
    → KeepsNodes held h c whole ms → IsKept more d one → k ≡ levels_up_to m.height → d ≡ nodes_up_to (node_count m.node) → IsSound m
    → KeepsMore held more after → (after ≡ None → IsLeftOut held more (min (d + c) last_u32))
    → KeepsNodes after (max h k) (min (d + c) last_u32) (whole ++ one ∷ []) (ms ++ m ∷ [])
keeps-push {h = h} {c = c} {k = k} {d = d} held after more whole one ms m before kept levels nodes sound keeps out = let sums = sum-nodes last_u32 c d (count_of ms) (node_count m.node) before.nodes nodes in record {
  all = kept-more held after more whole one sums.0 sums.1 before.all kept keeps out;
  levels = max-up_to last_u8 h k (highest ms) m.height before.levels levels ∙ ap levels_up_to (sym (highest-push ms m));
  nodes = sum-up_to last_u32 c d (count_of ms) (node_count m.node) before.nodes nodes ∙ ap nodes_up_to (sym (count-push ms m));
  sound = AreSound-push ms m before.sound sound;
}

pub keeps-item : {h c k d : ℕ} (held after : Option (List Node)) (more : Option Node) (ms : List Measured) (m : Measured)
    → KeepsNodes held h c (map (λ n. n.node) ms) ms → KeepsNode more k d m
    → KeepsMore held more after → (after ≡ None → IsLeftOut held more (min (d + c) last_u32))
    → KeepsNodes after (max h k) (min (d + c) last_u32) (map (λ n. n.node) (ms ++ m ∷ [])) (ms ++ m ∷ [])
keeps-item held after more ms m before kept keeps out =
    rw (map-append (λ (n : Measured). n.node) ms (m ∷ []))
    (keeps-push held after more (map (λ n. n.node) ms) m.node ms m before kept.node kept.levels kept.nodes kept.sound keeps out)

pub keeps-entry : {h c k d : ℕ} (held after : Option (List Pair)) (more : Option Node) (es : List Entry) (e : Entry)
    → KeepsNodes held h c (map pair_of es) (values_of es) → KeepsNode more k d e.1
    → KeepsMore held (option_map (λ n. pair e.0 n) more) after → (after ≡ None → IsLeftOut held (option_map (λ n. pair e.0 n) more) (min (d + c) last_u32))
    → KeepsNodes after (max h k) (min (d + c) last_u32) (map pair_of (es ++ e ∷ [])) (values_of (es ++ e ∷ []))
keeps-entry {d = d} held after more es e before kept keeps out =
    rw (map-append pair_of es (e ∷ []), map-append (λ (x : Entry). x.1) es (e ∷ []))
    (keeps-push held after (option_map (λ n. pair e.0 n) more) (map pair_of es) (pair_of e) (values_of es) e.1 before
    (IsKept-map {c = d} {d = d} (λ n. pair e.0 n) more e.1.node (omega arith) kept.node) kept.levels kept.nodes kept.sound keeps out)
