-- What reading makes of a model's outline: a tree whose nodes are named here.
use Rattle.std.proofs.Common.{◌≡◌, ℕ, suc, ◌≤◌, Bool, true, false, ℤ, pos, negsuc, true≢false, List, [], ◌∷◌, ◌++◌, length, map, codes, refl, sym, ap, ◌∙◌, arith, append-nil, Option, Some}
use Rattle.std.specs.Prelude.{nat_le, option_map, if◌then◌else◌}
use Rattle.std.specs.List.{list_all}
use Rattle.std.proofs.lemmas.Bool.Decides.{nat_tests}
use Rattle.std.proofs.lemmas.Bool.{and_parts, eqb-true}
use Rattle.std.proofs.lemmas.Slice.Eq.{bytes_eq-Decides}
use Rattle.yaml_core.specs.Measured.{Measured, Entry, list_node, map_node, highest}
use Rattle.yaml_core.specs.Reading.{Names, gives, and_then, naming, unless_higher}
use Rattle.yaml_core.specs.Tree.{adding}
use Rattle.problem_core.specs.Problem.{ProblemValue}
use Rattle.problem_core.specs.declared.criterion.Criterion.{Criterion}
use Rattle.problem_core.specs.declared.criterion.Scale.{Scale}
use Rattle.written_core.specs.Document.{Scalar, Flow, Same}
use Rattle.written_core.specs.Outline.{Outline, Leaf, End, Under, Dashed, Anchored, are_items, scalar_leaf, entries_by, items_by, block_of, meaning, outline_measured, listed}
use Rattle.written_core.proofs.Lists.{word_leaf, flow-meant, listed-meant, item-then}
use Rattle.model_core.specs.declared.model.Coalitions.{Coalitions}
use Rattle.model_core.specs.declared.model.Coalitions.TheVariants.{Weights, Roots}
use Rattle.model_core.specs.declared.model.Profile.{Profile}
use Rattle.model_core.specs.Model.{ModelValue}
use Rattle.model_text_core.specs.ModelText.{threshold_scalar, weight_scalar, is_same, all_same, are_same, thresholds_outline, accepted_outline, root_scalars, roots_outline, coalition_outline, each_outline, same_outline, coalitions_outline, model_outline}

-- ---- the nodes

abbrev pub thresholds_measured : Scale → List (Option ℤ) → Measured
thresholds_measured scale ts = map_node ((codes "kind", word_leaf (codes "thresholds")) ∷ (codes "thresholds", list_node (map scalar_leaf (map (threshold_scalar scale) ts))) ∷ [])

abbrev pub accepted_measured : List Criterion → List Profile → List Measured
accepted_measured [] rows = []
accepted_measured (criterion ∷ criteria) [] = []
accepted_measured (criterion ∷ criteria) (row ∷ rows) = thresholds_measured criterion.scale row.thresholds ∷ accepted_measured criteria rows

abbrev pub root_measured : ℕ → ℕ → Measured
root_measured count root = list_node (map scalar_leaf (root_scalars count root))

abbrev pub coalition_measured : ℕ → Coalitions → Measured
coalition_measured count (Weights ws) = map_node ((codes "kind", word_leaf (codes "weights")) ∷ (codes "criterion_weights", list_node (map scalar_leaf (map weight_scalar ws))) ∷ [])
coalition_measured count (Roots roots) = map_node ((codes "kind", word_leaf (codes "roots")) ∷ (codes "upset_roots", list_node (map (root_measured count) roots)) ∷ [])

abbrev pub model_measured : ProblemValue → ModelValue → Measured
model_measured problem m = map_node
    ((codes "kind", word_leaf (codes "ncs-classification-model")) ∷ (codes "format_version", word_leaf (codes "1"))
    ∷ (codes "accepted_values", list_node (accepted_measured problem.criteria m.profiles))
    ∷ (codes "sufficient_coalitions", list_node (map (coalition_measured (length problem.criteria)) m.coalitions)) ∷ [])

-- ---- thresholds

thresholds-meant : (d : ℕ) (scale : Scale) (ts : List (Option ℤ)) (names : Names) → meaning (suc (suc (suc d))) (thresholds_outline scale ts) names ≡ Some (thresholds_measured scale ts, names)
unfolding meaning
thresholds-meant d scale [] names = refl
thresholds-meant d scale (t ∷ ts) names = refl

accepted-meant : (d : ℕ) (before : List Measured) (criteria : List Criterion) (rows : List Profile) (names : Names)
    → items_by (meaning (suc (suc (suc d)))) before (accepted_outline criteria rows) names ≡ Some (before ++ accepted_measured criteria rows, names)
accepted-meant d before [] rows names = ap (λ (ns : List Measured). Some (ns, names)) (sym (append-nil before))
accepted-meant d before (criterion ∷ criteria) [] names = ap (λ (ns : List Measured). Some (ns, names)) (sym (append-nil before))
accepted-meant d before (criterion ∷ criteria) (row ∷ rows) names =
    let m = thresholds_measured criterion.scale row.thresholds in
    item-then (meaning (suc (suc (suc d)))) before (thresholds_outline criterion.scale row.thresholds) (accepted_outline criteria rows) m (accepted_measured criteria rows) names names names
    (thresholds-meant d criterion.scale row.thresholds names) (accepted-meant d (before ++ m ∷ []) criteria rows names)

pub accepted-items : (criteria : List Criterion) (rows : List Profile) → are_items (accepted_outline criteria rows) ≡ true
accepted-items [] rows = refl
accepted-items (criterion ∷ criteria) [] = refl
accepted-items (criterion ∷ criteria) (row ∷ rows) = refl

-- ---- roots

roots-meant : (d count : ℕ) (before : List Measured) (roots : List ℕ) (names : Names)
    → items_by (meaning (suc (suc d))) before (roots_outline count roots) names ≡ Some (before ++ map (root_measured count) roots, names)
roots-meant d count before [] names = ap (λ (ns : List Measured). Some (ns, names)) (sym (append-nil before))
roots-meant d count before (root ∷ roots) names =
    item-then (meaning (suc (suc d))) before (Leaf (Flow (root_scalars count root))) (roots_outline count roots) (root_measured count root) (map (root_measured count) roots) names names names
    (flow-meant d (root_scalars count root) names) (roots-meant d count (before ++ root_measured count root ∷ []) roots names)

pub roots-items : (count : ℕ) (roots : List ℕ) → are_items (roots_outline count roots) ≡ true
roots-items count [] = refl
roots-items count (root ∷ roots) = refl

-- what follows the list of roots
abbrev after_roots : Option (Measured × Names) → Option (Measured × Names)
after_roots o = and_then (λ es. gives (map_node es)) (and_then (λ es. gives es) (and_then (adding ((codes "kind", word_leaf (codes "roots")) ∷ []) (codes "upset_roots")) o))

coalition-block : (d count : ℕ) (roots : Coalitions) (names : Names) → block_of (meaning (suc (suc (suc d)))) (coalition_outline count roots) names ≡ Some (coalition_measured count roots, names)
unfolding meaning
coalition-block d count (Weights []) names = refl
coalition-block d count (Weights (w ∷ ws)) names = refl
coalition-block d count (Roots roots) names =
    ap after_roots (listed-meant (suc d) (roots_outline count roots) (map (root_measured count) roots) names names (roots-items count roots) (roots-meant d count [] roots names))

coalition-meant : (d count : ℕ) (roots : Coalitions) (names : Names) → meaning (suc (suc (suc (suc d)))) (coalition_outline count roots) names ≡ Some (coalition_measured count roots, names)
unfolding meaning
coalition-meant d count (Weights ws) names = coalition-block d count (Weights ws) names
coalition-meant d count (Roots roots) names = coalition-block d count (Roots roots) names

each-meant : (d count : ℕ) (before : List Measured) (rows : List Coalitions) (names : Names)
    → items_by (meaning (suc (suc (suc (suc d))))) before (each_outline count rows) names ≡ Some (before ++ map (coalition_measured count) rows, names)
each-meant d count before [] names = ap (λ (ns : List Measured). Some (ns, names)) (sym (append-nil before))
each-meant d count before (roots ∷ rows) names =
    item-then (meaning (suc (suc (suc (suc d))))) before (coalition_outline count roots) (each_outline count rows) (coalition_measured count roots) (map (coalition_measured count) rows) names names names
    (coalition-meant d count roots names) (each-meant d count (before ++ coalition_measured count roots ∷ []) rows names)

-- ---- an anchor and its aliases

highest-leaves : (ss : List Scalar) → highest (map scalar_leaf ss) ≤ 1
highest-leaves [] = omega arith
highest-leaves (s ∷ ss) = let h = highest-leaves ss in grind (arith, h)

highest-roots : (count : ℕ) (roots : List ℕ) → highest (map (root_measured count) roots) ≤ 2
highest-roots count [] = omega arith
highest-roots count (root ∷ roots) = let h = highest-roots count roots in let g = highest-leaves (root_scalars count root) in grind (arith, h, g)

coalition-height : (count : ℕ) (roots : Coalitions) → (coalition_measured count roots).height ≤ 4
coalition-height count (Weights ws) = let h = highest-leaves (map weight_scalar ws) in grind (arith, h)
coalition-height count (Roots roots) = let h = highest-roots count roots in grind (arith, h)

abbrev anchored : ℕ → Coalitions → Names
anchored count roots = (codes "coalitions", coalition_measured count roots) ∷ []

alias-meant : (d count : ℕ) (roots : Coalitions) → meaning (suc (suc (suc (suc d)))) (Leaf (Same (codes "coalitions"))) (anchored count roots) ≡ Some (coalition_measured count roots, anchored count roots)
unfolding meaning
alias-meant d count roots = within (coalition_measured count roots) (suc (suc (suc (suc d)))) (anchored count roots) (fits (coalition_measured count roots).height (coalition-height count roots))
  where
    fits : (n : ℕ) → n ≤ 4 → nat_le n (suc (suc (suc (suc d)))) ≡ true
    fits n h = grind (arith, nat_tests)

    within : (m : Measured) (e : ℕ) (names : Names) → nat_le m.height e ≡ true → unless_higher e names (Some m) ≡ Some (m, names)
    within m e names h = rw h refl

is_same-is : (v w : ℤ) → is_same v w ≡ true → v ≡ w
is_same-is (pos a) (pos b) h = ap (λ n. pos n) (eqb-true a b h)
is_same-is (pos a) (negsuc b) h = absurd (true≢false (sym h))
is_same-is (negsuc a) (pos b) h = absurd (true≢false (sym h))
is_same-is (negsuc a) (negsuc b) h = ap (λ n. negsuc n) (eqb-true a b h)

all_same-is : (vs ws : List ℤ) → all_same vs ws ≡ true → vs ≡ ws
all_same-is [] [] h = refl
all_same-is [] (w ∷ ws) h = absurd (true≢false (sym h))
all_same-is (v ∷ vs) [] h = absurd (true≢false (sym h))
all_same-is (v ∷ vs) (w ∷ ws) h =
    let (first, more) = and_parts (is_same v w) (all_same vs ws) h in
    ap (λ (x : ℤ). x ∷ vs) (is_same-is v w first) ∙ ap (λ (xs : List ℤ). w ∷ xs) (all_same-is vs ws more)

are_same-is : (a b : Coalitions) → are_same a b ≡ true → a ≡ b
are_same-is (Weights vs) (Weights ws) h = ap (λ (xs : List ℤ). Weights xs) (all_same-is vs ws h)
are_same-is (Weights vs) (Roots rs) h = absurd (true≢false (sym h))
are_same-is (Roots qs) (Weights ws) h = absurd (true≢false (sym h))
are_same-is (Roots qs) (Roots rs) h = ap (λ (xs : List ℕ). Roots xs) ((bytes_eq-Decides qs rs).0 h)

same-meant : (d count : ℕ) (before : List Measured) (roots : Coalitions) (rows : List Coalitions) → list_all (are_same roots) rows ≡ true
    → items_by (meaning (suc (suc (suc (suc d))))) before (same_outline rows) (anchored count roots) ≡ Some (before ++ map (coalition_measured count) rows, anchored count roots)
same-meant d count before roots [] h = ap (λ (ns : List Measured). Some (ns, anchored count roots)) (sym (append-nil before))
same-meant d count before roots (row ∷ rows) h =
    let (first, more) = and_parts (are_same roots row) (list_all (are_same roots) rows) h in
    let same : roots ≡ row = are_same-is roots row first in
    let m = coalition_measured count roots in
    item-then (meaning (suc (suc (suc (suc d))))) before (Leaf (Same (codes "coalitions"))) (same_outline rows) m (map (coalition_measured count) rows) (anchored count roots) (anchored count roots) (anchored count roots)
    (alias-meant d count roots) (same-meant d count (before ++ m ∷ []) roots rows more)
    ∙ ap (λ (x : Coalitions). Some (before ++ coalition_measured count x ∷ map (coalition_measured count) rows, anchored count roots)) same

anchor-meant : (d count : ℕ) (roots : Coalitions) → meaning (suc (suc (suc (suc d)))) (Anchored (codes "coalitions") (coalition_outline count roots)) [] ≡ Some (coalition_measured count roots, anchored count roots)
unfolding meaning
anchor-meant d count roots = ap (and_then (naming (codes "coalitions"))) (coalition-block d count roots [])

-- ---- the boundaries

-- the names after the boundaries' items
abbrev names_after : ℕ → List Coalitions → Names
names_after count [] = []
names_after count (roots ∷ rows) = if list_all (are_same roots) rows then anchored count roots else []

coalitions-meant : (d count : ℕ) (rows : List Coalitions)
    → items_by (meaning (suc (suc (suc (suc d))))) [] (coalitions_outline count rows) [] ≡ Some (map (coalition_measured count) rows, names_after count rows)
coalitions-meant d count [] = refl
coalitions-meant d count (roots ∷ rows) = by_test (list_all (are_same roots) rows) refl
  where
    by_test : (t : Bool) → list_all (are_same roots) rows ≡ t
        → items_by (meaning (suc (suc (suc (suc d))))) [] (if t then Dashed (Anchored (codes "coalitions") (coalition_outline count roots)) (same_outline rows) else each_outline count (roots ∷ rows)) []
        ≡ Some (map (coalition_measured count) (roots ∷ rows), if t then anchored count roots else [])
    by_test true e =
        let m = coalition_measured count roots in
        item-then (meaning (suc (suc (suc (suc d))))) [] (Anchored (codes "coalitions") (coalition_outline count roots)) (same_outline rows) m (map (coalition_measured count) rows) [] (anchored count roots) (anchored count roots)
        (anchor-meant d count roots) (same-meant d count (m ∷ []) roots rows e)
    by_test false e = each-meant d count [] (roots ∷ rows) []

pub coalitions-items : (count : ℕ) (rows : List Coalitions) → are_items (coalitions_outline count rows) ≡ true
coalitions-items count [] = refl
coalitions-items count (roots ∷ rows) = by_test (list_all (are_same roots) rows)
  where
    by_test : (t : Bool) → are_items (if t then Dashed (Anchored (codes "coalitions") (coalition_outline count roots)) (same_outline rows) else each_outline count (roots ∷ rows)) ≡ true
    by_test true = refl
    by_test false = refl

-- ---- the model

abbrev before_accepted : List Entry
before_accepted = (codes "kind", word_leaf (codes "ncs-classification-model")) ∷ (codes "format_version", word_leaf (codes "1")) ∷ []

-- what follows the thresholds, and what follows the coalitions
abbrev after_accepted : ℕ → Outline → Option (Measured × Names) → Option (Measured × Names)
after_accepted d coalitions o = and_then (λ es. gives (map_node es)) (and_then (λ es. entries_by (meaning d) es (Under (codes "sufficient_coalitions") coalitions End)) (and_then (adding before_accepted (codes "accepted_values")) o))

abbrev after_coalitions : Measured → Option (Measured × Names) → Option (Measured × Names)
after_coalitions accepted o = and_then (λ es. gives (map_node es)) (and_then (λ es. gives es) (and_then (adding (before_accepted ++ (codes "accepted_values", accepted) ∷ []) (codes "sufficient_coalitions")) o))

model-block : (d : ℕ) (problem : ProblemValue) (m : ModelValue)
    → block_of (meaning (suc (suc (suc (suc (suc d)))))) (model_outline problem m) [] ≡ Some (model_measured problem m, names_after (length problem.criteria) m.coalitions)
unfolding meaning
model-block d problem m =
    let count = length problem.criteria in
    let accepted = accepted_outline problem.criteria m.profiles in
    let coalitions = coalitions_outline count m.coalitions in
    let ms = accepted_measured problem.criteria m.profiles in
    ap (after_accepted (suc (suc (suc (suc (suc d))))) (listed coalitions))
    (listed-meant (suc (suc (suc d))) accepted ms [] [] (accepted-items problem.criteria m.profiles) (accepted-meant (suc d) [] problem.criteria m.profiles []))
    ∙ ap (after_coalitions (list_node ms))
    (listed-meant (suc (suc (suc d))) coalitions (map (coalition_measured count) m.coalitions) [] (names_after count m.coalitions) (coalitions-items count m.coalitions) (coalitions-meant d count m.coalitions))

-- the tree of a model's outline
pub model-outlined : (problem : ProblemValue) (m : ModelValue) → outline_measured (model_outline problem m) ≡ Some (model_measured problem m)
model-outlined problem m = ap (option_map (λ (p : Measured × Names). p.0)) (model-block 58 problem m)
