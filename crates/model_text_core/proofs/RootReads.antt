-- Roots as they are written read as the same roots.
use Rattle.std.proofs.Common.{◌≡◌, ℕ, zero, suc, ◌+◌, ◌*◌, ◌/◌, ◌%◌, ◌<◌, ◌≤◌, ◌^◌, Bool, true, false, ℤ, List, [], ◌∷◌, ◌++◌, length, map, codes, refl, sym, ap, ◌∙◌, arith, append_assoc, append-nil, Option, Some, None, Ok, inl, inr}
use Rattle.std.specs.Prelude.{◌==◌, ◌&&◌, nat_le, nat_lt, bit_and, decimal, option_and_then, ok_or, All, if◌then◌else◌}
use Rattle.std.specs.Fmt.{digits}
use Rattle.std.specs.Str.Parse.{digits_value}
use Rattle.std.proofs.Math.Nat.{two-pow-succ, add-mul, mul-add, mul-one, div-add-mod}
use Rattle.std.proofs.lemmas.Bool.{and_parts, cases_eq}
use Rattle.std.proofs.lemmas.Bool.Decides.{nat_tests}
use Rattle.std.proofs.lemmas.List.Elements.{All-head, All-tail}
use Rattle.std.proofs.lemmas.Nat.{mod_below}
use Rattle.std.proofs.lemmas.Nat.Bits.{bit_at_above, and_pow}
use Rattle.std.proofs.lemmas.Fmt.{decimal_is_IsNumeral}
use Rattle.yaml_core.specs.declared.node.Node.{Node}
use Rattle.std.specs.Result.{result_ok}
use Rattle.std.proofs.lemmas.List.{length-map}
use Rattle.fixed_core.specs.Spelling.{spelling}
use Rattle.fixed_core.specs.Value.{fixed_of}
use Rattle.fixed_core.proofs.ReadsBack.{spelling-reads}
use Rattle.yaml_core.specs.Measured.{Entry, Measured, list_node, map_node}
use Rattle.problem_core.specs.Tree.{items_under, is_text}
use Rattle.model_core.specs.Model.{IsWeight, AreCoalitions}
use Rattle.model_core.specs.declared.model.Coalitions.{Coalitions}
use Rattle.model_core.specs.declared.model.Coalitions.TheVariants.{Weights, Roots}
use Rattle.written_core.specs.Outline.{scalar_leaf, scalar_node}
use Rattle.lists_core.specs.Answers.{◌>>=◌, require}
use Rattle.model_core.specs.ReadAccepted.{items_of_kind}
use Rattle.model_core.specs.ReadCoalitions.{is_plain_number, place_in, with_criterion, with_item, set_of, root_of, roots_of, unless_negative, weight_in, weights_of, by_weights, by_roots, by_kind, coalitions_of, all_coalitions}
use Rattle.model_core.specs.declared.model_fault.ModelFault.{ModelFault}
use Rattle.model_core.specs.declared.model_fault.ModelFault.TheVariants as fault
use Rattle.written_core.proofs.Lists.{word_leaf, nodes-scalars}
use Rattle.written_core.proofs.Lookups.{text-Scalar, list-List, some-Scalar, some-List, word-under}
use Rattle.written_core.proofs.Words.{decimal-word, spelling-word, number-node}
use Rattle.model_text_core.specs.ModelText.{places_in, place_word, root_scalars, weight_scalar}
use Rattle.model_text_core.proofs.Meaning.{root_measured, coalition_measured}
use Rattle.model_text_core.proofs.Lookups.{kind-items}
use Rattle.model_text_core.proofs.PlaceTexts.{odd-one, even-none}

-- ---- places

-- the test passes below n
abbrev all_below : (ℕ → Bool) → ℕ → Bool
all_below p zero = true
all_below p (suc n) = p n && all_below p n

below-passes : (p : ℕ → Bool) (n i : ℕ) → all_below p n ≡ true → i < n → p i ≡ true
below-passes p zero i h lt = absurd (omega arith)
below-passes p (suc n) i h lt =
    let (here, more) = and_parts (p n) (all_below p n) h in
    elim (cases_eq i n) [
      | inl same ↦ ap p same ∙ here
      | inr other ↦ below-passes p n i more (omega (arith, other))
    ]

plain-places : all_below (λ i. is_plain_number (decimal i)) 32 ≡ true
unfolding digits
plain-places = refl

place-read : (count i : ℕ) → i < count → count ≤ 32 → place_in count (decimal i) ≡ Some i
place-read count i h few =
    let plain : is_plain_number (decimal i) ≡ true = below-passes (λ i. is_plain_number (decimal i)) 32 i plain-places (omega arith) in
    let value : digits_value 10 (decimal i) ≡ i = (decimal_is_IsNumeral i (omega arith)).1 in
    let within : nat_lt i count ≡ true = grind (arith, nat_tests) in
    both (is_plain_number (decimal i)) (digits_value 10 (decimal i)) plain value within
  where
    both : (t : Bool) (v : ℕ) → t ≡ true → v ≡ i → nat_lt i count ≡ true → (if t && nat_lt v count then Some v else None) ≡ Some i
    both t v et ev w = ap (λ b. if b && nat_lt v count then Some v else None) et ∙ ap (λ x. if nat_lt x count then Some x else None) ev ∙ rw w refl

-- a place that is not in the set yet
new-place : (set i : ℕ) → set < 2 ^ i → with_criterion set i ≡ Some (set + 2 ^ i)
new-place set i h =
    let none : bit_and set (2 ^ i) ≡ 0 = and_pow set i ∙ ap (λ b. b * 2 ^ i) (bit_at_above set i i h (omega arith)) ∙ omega arith in
    ap (λ (n : ℕ). if n == 0 then Some (set + 2 ^ i) else None) none

abbrev place_node : ℕ → Node
place_node i = scalar_node (place_word i)

item-read : (count set i : ℕ) → i < count → count ≤ 32 → set < 2 ^ i → with_item count set (place_node i) ≡ Some (set + 2 ^ i)
item-read count set i h few low =
    ap (λ (n : Node). with_item count set n) (number-node (decimal i) (decimal-word i (omega arith)))
    ∙ ap (λ (o : Option (List ℕ)). option_and_then (with_criterion set) (option_and_then (place_in count) o)) (text-Scalar (decimal i))
    ∙ ap (option_and_then (with_criterion set)) (place-read count i h few)
    ∙ new-place set i low

-- ---- a root

odd-sum : (a p q : ℕ) → (a + p) + (p + p) * q ≡ a + p * (q + q + 1)
odd-sum a p q = let e = add-mul p p q in let f = mul-add p (q + q) 1 in let g = mul-add p q q in let h = mul-one p in omega (arith, e, f, g, h)

even-sum : (a p q : ℕ) → a + (p + p) * q ≡ a + p * (q + q)
even-sum a p q = let e = add-mul p p q in let g = mul-add p q q in omega (arith, e, g)

halved : (set n : ℕ) → set < 2 ^ suc n → set / 2 < 2 ^ n
halved set n h = let double = two-pow-succ n in omega (arith, h, double, div-add-mod set 2)

parity : (set : ℕ) → set % 2 < 2
parity set = mod_below set 2 (omega arith)

-- one place more, if the rest of the set reads back
set-step : (count n i acc set : ℕ) → i + suc n ≤ count → count ≤ 32 → acc < 2 ^ i → set < 2 ^ suc n
    → ((a s : ℕ) → a < 2 ^ (i + 1) → s < 2 ^ n → set_of count a (map (λ m. place_node m) (places_in n (i + 1) s)) ≡ Some (a + 2 ^ (i + 1) * s))
    → (t : Bool) → (set % 2 == 1) ≡ t
    → set_of count acc (map (λ m. place_node m) (if t then i ∷ places_in n (i + 1) (set / 2) else places_in n (i + 1) (set / 2))) ≡ Some (acc + 2 ^ i * set)
unfolding set_of
set-step count n i acc set h few low small rest true e =
    let half : set ≡ set / 2 + set / 2 + 1 = omega (arith, div-add-mod set 2, odd-one set e) in
    let next : i + 1 ≡ suc i = omega arith in
    let double : 2 ^ (i + 1) ≡ 2 ^ i + 2 ^ i = ap (λ k. 2 ^ k) next ∙ two-pow-succ i in
    ap (option_and_then (λ larger. set_of count larger (map (λ m. place_node m) (places_in n (i + 1) (set / 2))))) (item-read count acc i (omega (arith, h)) few low)
    ∙ rest (acc + 2 ^ i) (set / 2) (omega (arith, low, double)) (halved set n small)
    ∙ ap (λ (s : ℕ). Some s) (ap (λ p. (acc + 2 ^ i) + p * (set / 2)) double ∙ odd-sum acc (2 ^ i) (set / 2) ∙ ap (λ s. acc + 2 ^ i * s) (sym half))
set-step count n i acc set h few low small rest false e =
    let half : set ≡ set / 2 + set / 2 = omega (arith, div-add-mod set 2, even-none set (parity set) e) in
    let next : i + 1 ≡ suc i = omega arith in
    let double : 2 ^ (i + 1) ≡ 2 ^ i + 2 ^ i = ap (λ k. 2 ^ k) next ∙ two-pow-succ i in
    rest acc (set / 2) (omega (arith, low, double)) (halved set n small)
    ∙ ap (λ (s : ℕ). Some s) (ap (λ p. acc + p * (set / 2)) double ∙ even-sum acc (2 ^ i) (set / 2) ∙ ap (λ s. acc + 2 ^ i * s) (sym half))

set-read : (count n i acc set : ℕ) → i + n ≤ count → count ≤ 32 → acc < 2 ^ i → set < 2 ^ n
    → set_of count acc (map (λ m. place_node m) (places_in n i set)) ≡ Some (acc + 2 ^ i * set)
unfolding set_of
set-read count zero i acc set h few low small =
    let none : set ≡ 0 = omega (arith, small) in
    let nothing : acc ≡ acc + 2 ^ i * 0 = omega arith in
    ap (λ (s : ℕ). Some s) (nothing ∙ ap (λ s. acc + 2 ^ i * s) (sym none))
set-read count (suc n) i acc set h few low small =
    set-step count n i acc set h few low small (λ a s la ls. set-read count n (i + 1) a s (omega (arith, h)) few la ls) (set % 2 == 1) refl

root-read : (count root : ℕ) → count ≤ 32 → root < 2 ^ count → root_of count (root_measured count root).node ≡ Some root
root-read count root few small =
    let whole : 0 + 2 ^ 0 * root ≡ root = omega arith in
    ap (option_and_then (set_of count 0)) (list-List (map (λ m. m.node) (map scalar_leaf (root_scalars count root))))
    ∙ ap (set_of count 0) (nodes-scalars place_word (places_in count 0 root))
    ∙ set-read count count 0 0 root (omega arith) few (omega arith) small
    ∙ ap (λ (s : ℕ). Some s) whole

roots-read : (count : ℕ) (f : ModelFault) (earlier roots : List ℕ) → count ≤ 32 → All (λ root. root < 2 ^ count) roots
    → roots_of count f earlier (map (λ m. m.node) (map (root_measured count) roots)) ≡ Ok (earlier ++ roots)
unfolding roots_of
roots-read count f earlier [] few all = ap (λ (rs : List ℕ). Ok rs) (sym (append-nil earlier))
roots-read count f earlier (root ∷ roots) few all =
    ap (λ o. ok_or o f >>= λ r. roots_of count f (earlier ++ r ∷ []) (map (λ m. m.node) (map (root_measured count) roots))) (root-read count root few (All-head (λ r. r < 2 ^ count) root roots all))
    ∙ roots-read count f (earlier ++ root ∷ []) roots few (All-tail (λ r. r < 2 ^ count) root roots all)
    ∙ ap (λ (rs : List ℕ). Ok rs) (append_assoc earlier (root ∷ []) roots)

-- ---- a boundary

coalition-items : (count : ℕ) (roots : List ℕ) → items_of_kind (codes "roots") (codes "upset_roots") (coalition_measured count (Roots roots)).node ≡ Some (map (λ m. m.node) (map (root_measured count) roots))
coalition-items count roots =
    kind-items (codes "roots") (codes "upset_roots") ((codes "kind", word_leaf (codes "roots")) ∷ (codes "upset_roots", list_node (map (root_measured count) roots)) ∷ [])
    (map (λ m. m.node) (map (root_measured count) roots)) (some-Scalar (codes "roots")) refl (some-List (map (λ m. m.node) (map (root_measured count) roots)))

-- no list of weights
no-weights : (count : ℕ) (roots : List ℕ) → items_of_kind (codes "weights") (codes "criterion_weights") (coalition_measured count (Roots roots)).node ≡ None
no-weights count roots =
    let es : List Entry = (codes "kind", word_leaf (codes "roots")) ∷ (codes "upset_roots", list_node (map (root_measured count) roots)) ∷ [] in
    ap (λ (t : Bool). if t then items_under (codes "criterion_weights") (map_node es).node else None) (ap (is_text (codes "weights")) (word-under (codes "kind") es (codes "roots") (some-Scalar (codes "roots"))))

-- ---- weights

weight-read : (w : ℤ) → IsWeight w → weight_in (scalar_node (weight_scalar w)) ≡ Some w
weight-read w good =
    ap weight_in (number-node (spelling w) (spelling-word w good.1))
    ∙ ap (λ o. option_and_then unless_negative (option_and_then (λ (text : List ℕ). result_ok (fixed_of text)) o)) (text-Scalar (spelling w))
    ∙ ap (λ r. option_and_then unless_negative (result_ok r)) (spelling-reads w good.1)
    ∙ ap (λ (t : Bool). if t then None else Some w) good.0

weights-read : (f : ModelFault) (earlier ws : List ℤ) → All IsWeight ws → weights_of f earlier (map (λ w. scalar_node (weight_scalar w)) ws) ≡ Ok (earlier ++ ws)
unfolding weights_of
weights-read f earlier [] all = ap (λ (xs : List ℤ). Ok xs) (sym (append-nil earlier))
weights-read f earlier (w ∷ ws) all =
    ap (λ o. ok_or o f >>= λ x. weights_of f (earlier ++ x ∷ []) (map (λ v. scalar_node (weight_scalar v)) ws)) (weight-read w (All-head IsWeight w ws all))
    ∙ weights-read f (earlier ++ w ∷ []) ws (All-tail IsWeight w ws all)
    ∙ ap (λ (xs : List ℤ). Ok xs) (append_assoc earlier (w ∷ []) ws)

weights-items : (count : ℕ) (ws : List ℤ) → items_of_kind (codes "weights") (codes "criterion_weights") (coalition_measured count (Weights ws)).node ≡ Some (map (λ m. m.node) (map scalar_leaf (map weight_scalar ws)))
weights-items count ws =
    kind-items (codes "weights") (codes "criterion_weights") ((codes "kind", word_leaf (codes "weights")) ∷ (codes "criterion_weights", list_node (map scalar_leaf (map weight_scalar ws))) ∷ [])
    (map (λ m. m.node) (map scalar_leaf (map weight_scalar ws))) (some-Scalar (codes "weights")) refl (some-List (map (λ m. m.node) (map scalar_leaf (map weight_scalar ws))))

by-weights-read : (count boundary : ℕ) (ws : List ℤ) → length ws ≡ count → All IsWeight ws → by_weights count boundary (map (λ w. scalar_node (weight_scalar w)) ws) ≡ Ok (Weights ws)
unfolding by_weights
by-weights-read count boundary ws long all =
    let ns : List Node = map (λ w. scalar_node (weight_scalar w)) ws in
    let counted : (length ns == count) ≡ true = same-numbers (length ns) count (length-map ws (λ w. scalar_node (weight_scalar w)) ∙ long) in
    ap (λ b. require b (fault.Weights boundary) >>= λ _. weights_of (fault.Weights boundary) [] ns >>= λ xs. Ok (Weights xs)) counted
    ∙ ap (λ r. r >>= λ xs. Ok (Weights xs)) (weights-read (fault.Weights boundary) [] ws all)
  where
    same-numbers : (a b : ℕ) → a ≡ b → (a == b) ≡ true
    same-numbers a b e = grind (arith, nat_tests)

by-roots-read : (count boundary : ℕ) (roots : List ℕ) → count ≤ 32 → AreCoalitions count (Roots roots) → by_roots count boundary (map (λ m. m.node) (map (root_measured count) roots)) ≡ Ok (Roots roots)
unfolding by_roots
by-roots-read count boundary roots few all =
    let ms : List Measured = map (root_measured count) roots in
    let ns : List Node = map (λ m. m.node) ms in
    let long : length ns ≡ length roots = length-map ms (λ (m : Measured). m.node) ∙ length-map roots (root_measured count) in
    let counted : nat_le (length ns) (4 * 10 ^ 9) ≡ true = at_most (length ns) (omega (arith, long, all.0)) in
    ap (λ b. require b (fault.Roots boundary) >>= λ _. roots_of count (fault.Roots boundary) [] ns >>= λ xs. Ok (Roots xs)) counted
    ∙ ap (λ r. r >>= λ xs. Ok (Roots xs)) (roots-read count (fault.Roots boundary) [] roots few all.1)
  where
    at_most : (n : ℕ) → n ≤ 4 * 10 ^ 9 → nat_le n (4 * 10 ^ 9) ≡ true
    at_most n h = grind (arith, nat_tests)

coalition-read : (count boundary : ℕ) (c : Coalitions) → count ≤ 32 → AreCoalitions count c → coalitions_of count boundary (coalition_measured count c).node ≡ Ok c
unfolding coalitions_of
coalition-read count boundary (Weights ws) few all =
    ap (λ o. by_kind count boundary o (items_of_kind (codes "roots") (codes "upset_roots") (coalition_measured count (Weights ws)).node)) (weights-items count ws)
    ∙ ap (by_weights count boundary) (nodes-scalars weight_scalar ws)
    ∙ by-weights-read count boundary ws all.0 all.1
coalition-read count boundary (Roots roots) few all =
    ap (λ o. by_kind count boundary o (items_of_kind (codes "roots") (codes "upset_roots") (coalition_measured count (Roots roots)).node)) (no-weights count roots)
    ∙ ap (by_kind count boundary None) (coalition-items count roots)
    ∙ by-roots-read count boundary roots few all

-- the items of the boundaries read as their coalitions
pub coalitions-read : (count : ℕ) (earlier rows : List Coalitions) → count ≤ 32 → All (AreCoalitions count) rows
    → all_coalitions count earlier (map (λ m. m.node) (map (coalition_measured count) rows)) ≡ Ok (earlier ++ rows)
unfolding all_coalitions
coalitions-read count earlier [] few all = ap (λ (rs : List Coalitions). Ok rs) (sym (append-nil earlier))
coalitions-read count earlier (row ∷ rows) few all =
    ap (λ r. r >>= λ x. all_coalitions count (earlier ++ x ∷ []) (map (λ m. m.node) (map (coalition_measured count) rows))) (coalition-read count (length earlier + 1) row few (All-head (AreCoalitions count) row rows all))
    ∙ coalitions-read count (earlier ++ row ∷ []) rows few (All-tail (AreCoalitions count) row rows all)
    ∙ ap (λ (rs : List Coalitions). Ok rs) (append_assoc earlier (row ∷ []) rows)
