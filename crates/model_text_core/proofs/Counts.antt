-- How many nodes the tree of a model's text has.
use Rattle.std.proofs.Common.{◌≡◌, ℕ, zero, suc, ◌+◌, ◌*◌, ◌/◌, ◌%◌, ◌≤◌, Bool, true, false, ℤ, List, [], ◌∷◌, length, map, codes, sym, ap, ◌∙◌, subst, arith, Option, Some}
use Rattle.std.specs.Prelude.{◌==◌, All, option_map, if◌then◌else◌}
use Rattle.std.proofs.lemmas.List.{length-map}
use Rattle.std.proofs.lemmas.List.Elements.{All-head, All-tail, All-weaker}
use Rattle.yaml_core.specs.declared.node.Node.{Node}
use Rattle.yaml_core.specs.Measured.{Measured, list_node}
use Rattle.yaml_core.specs.Kept.{count_of}
use Rattle.yaml_core.specs.Size.{node_count}
use Rattle.yaml_core.specs.Tree.{text_tree}
use Rattle.yaml_core.proofs.MeasureLemmas.{count-list, count-map}
use Rattle.problem_core.specs.Problem.{ProblemValue, IsProblem}
use Rattle.problem_core.specs.declared.criterion.Criterion.{Criterion}
use Rattle.problem_core.specs.declared.criterion.Scale.{Scale}
use Rattle.written_core.specs.Document.{Word}
use Rattle.written_core.specs.Outline.{scalar_leaf}
use Rattle.written_core.proofs.Outlines.{outline-read}
use Rattle.model_core.specs.Model.{ModelValue, AreCoalitions, Belongs, boundaries_of}
use Rattle.model_core.specs.declared.model.Coalitions.{Coalitions}
use Rattle.model_core.specs.declared.model.Coalitions.TheVariants.{Weights, Roots}
use Rattle.model_core.specs.declared.model.Profile.{Profile}
use Rattle.written_core.proofs.Lists.{word_leaf, count-more, scalar-count, flow-count}
use Rattle.model_text_core.specs.ModelText.{threshold_scalar, weight_scalar, place_word, places_in, root_scalars, model_outline, model_text, HasFewRoots, HaveFewRoots, ReadsBack, ReadsWhole}
use Rattle.model_text_core.proofs.Meaning.{thresholds_measured, accepted_measured, root_measured, coalition_measured, model_measured, model-outlined}
use Rattle.model_text_core.proofs.ModelText.{model-good}

-- ---- thresholds

thresholds-count : (scale : Scale) (ts : List (Option ℤ)) → length ts ≤ 9 → node_count (thresholds_measured scale ts).node ≤ 12
thresholds-count scale ts few =
    let whole = count-map ((codes "kind", word_leaf (codes "thresholds")) ∷ (codes "thresholds", list_node (map scalar_leaf (map (threshold_scalar scale) ts))) ∷ []) in
    let kind = scalar-count (Word (codes "thresholds")) in
    let grades = flow-count (map (threshold_scalar scale) ts) in
    let same = length-map ts (threshold_scalar scale) in
    omega (arith, whole, kind, grades, same, few)

accepted-count : (criteria : List Criterion) (rows : List Profile) → All (λ p. length p.thresholds ≤ 9) rows → count_of (accepted_measured criteria rows) ≤ length criteria * 12
accepted-count [] rows few = omega arith
accepted-count (criterion ∷ criteria) [] few = omega arith
accepted-count (criterion ∷ criteria) (row ∷ rows) few =
    let whole = count-more (thresholds_measured criterion.scale row.thresholds) (accepted_measured criteria rows) in
    let first = thresholds-count criterion.scale row.thresholds (All-head (λ p. length p.thresholds ≤ 9) row rows few) in
    let more = accepted-count criteria rows (All-tail (λ p. length p.thresholds ≤ 9) row rows few) in
    omega (arith, whole, first, more)

-- ---- coalitions

places-count : (n place set : ℕ) → length (places_in n place set) ≤ n
places-count zero place set = omega arith
places-count (suc n) place set = by_test (set % 2 == 1) (places-count n (place + 1) (set / 2))
  where
    by_test : (t : Bool) → length (places_in n (place + 1) (set / 2)) ≤ n
        → length (if t then place ∷ places_in n (place + 1) (set / 2) else places_in n (place + 1) (set / 2)) ≤ suc n
    by_test true more = omega (arith, more)
    by_test false more = omega (arith, more)

root-count : (count root : ℕ) → count ≤ 16 → node_count (root_measured count root).node ≤ 17
root-count count root few =
    let whole = flow-count (root_scalars count root) in
    let same = length-map (places_in count 0 root) place_word in
    let places = places-count count 0 root in
    omega (arith, whole, same, places, few)

roots-count : (count : ℕ) (roots : List ℕ) → count ≤ 16 → count_of (map (root_measured count) roots) ≤ length roots * 17
roots-count count [] few = omega arith
roots-count count (root ∷ roots) few =
    let whole = count-more (root_measured count root) (map (root_measured count) roots) in
    let first = root-count count root few in
    let more = roots-count count roots few in
    omega (arith, whole, first, more)

-- the nodes of coalitions with 65,536 roots of 16 places
abbrev most_of_coalitions : ℕ
most_of_coalitions = 1114115

coalition-count : (count : ℕ) (c : Coalitions) → count ≤ 16 → AreCoalitions count c → HasFewRoots c → node_count (coalition_measured count c).node ≤ most_of_coalitions
coalition-count count (Weights ws) few is short =
    let whole = count-map ((codes "kind", word_leaf (codes "weights")) ∷ (codes "criterion_weights", list_node (map scalar_leaf (map weight_scalar ws))) ∷ []) in
    let kind = scalar-count (Word (codes "weights")) in
    let weights = flow-count (map weight_scalar ws) in
    let same = length-map ws weight_scalar in
    let each = is.0 in
    omega (arith, whole, kind, weights, same, each, few)
coalition-count count (Roots roots) few is short =
    let whole = count-map ((codes "kind", word_leaf (codes "roots")) ∷ (codes "upset_roots", list_node (map (root_measured count) roots)) ∷ []) in
    let kind = scalar-count (Word (codes "roots")) in
    let list = count-list (map (root_measured count) roots) in
    let inner = roots-count count roots few in
    omega (arith, whole, kind, list, inner, short)

coalitions-count : (count : ℕ) (rows : List Coalitions) → count ≤ 16 → All (AreCoalitions count) rows → All HasFewRoots rows
    → count_of (map (coalition_measured count) rows) ≤ length rows * most_of_coalitions
coalitions-count count [] few are short = omega arith
coalitions-count count (row ∷ rows) few are short =
    let whole = count-more (coalition_measured count row) (map (coalition_measured count) rows) in
    let first = coalition-count count row few (All-head (AreCoalitions count) row rows are) (All-head HasFewRoots row rows short) in
    let more = coalitions-count count rows few (All-tail (AreCoalitions count) row rows are) (All-tail HasFewRoots row rows short) in
    omega (arith, whole, first, more)

-- ---- the model

few-thresholds : (n : ℕ) (rows : List Profile) → n ≤ 9 → All (λ p. length p.thresholds ≡ n) rows → All (λ p. length p.thresholds ≤ 9) rows
few-thresholds n rows few all = All-weaker (λ p. length p.thresholds ≡ n) (λ p. length p.thresholds ≤ 9) (λ p same. let e = same in omega (arith, e, few)) rows all

model-count : (problem : ProblemValue) (m : ModelValue) → IsProblem problem → Belongs problem m → HaveFewRoots m → node_count (model_measured problem m).node ≤ 16777216
model-count problem m p b short =
    let count = length problem.criteria in
    let few = p.few_criteria in
    let categories = p.few_categories in
    let boundaries : boundaries_of problem ≤ 9 = omega (arith, categories) in
    let accepted = accepted-count problem.criteria m.profiles (few-thresholds (boundaries_of problem) m.profiles boundaries b.thresholds) in
    let coalitions = coalitions-count count m.coalitions few b.coalitions short in
    let rows = b.boundaries in
    let whole = count-map ((codes "kind", word_leaf (codes "ncs-classification-model")) ∷ (codes "format_version", word_leaf (codes "1"))
    ∷ (codes "accepted_values", list_node (accepted_measured problem.criteria m.profiles))
    ∷ (codes "sufficient_coalitions", list_node (map (coalition_measured count) m.coalitions)) ∷ []) in
    let kind = scalar-count (Word (codes "ncs-classification-model")) in
    let version = scalar-count (Word (codes "1")) in
    let first = count-list (accepted_measured problem.criteria m.profiles) in
    let second = count-list (map (coalition_measured count) m.coalitions) in
    omega (arith, few, boundaries, accepted, coalitions, rows, whole, kind, version, first, second)

-- ---- read back

-- the tree of the text is the one that is counted
text-measured : (problem : ProblemValue) (m : ModelValue) → length problem.criteria ≤ 32 → Belongs problem m → text_tree (model_text problem m) ≡ Some (model_measured problem m).node
text-measured problem m few b = ap (λ (r : Option Measured). option_map (λ x. x.node) r) (outline-read (model_outline problem m) (model-good problem m few b) ∙ model-outlined problem m)

same_node : {a b : Node} → Some a ≡ Some b → a ≡ b
same_node e = cc

-- a text that has a tree and has few roots reads back whole
pub reads-whole : (problem : ProblemValue) (m : ModelValue) → IsProblem problem → Belongs problem m → HaveFewRoots m → ReadsBack problem m → ReadsWhole problem m
reads-whole problem m p b short r =
    let few = p.few_criteria in
    let same : r.tree ≡ (model_measured problem m).node = same_node (sym r.of_text ∙ text-measured problem m (omega (arith, few)) b) in
    record {
      tree = r.tree;
      of_bytes = r.of_bytes (subst (λ n. node_count n ≤ 16777216) (sym same) (model-count problem m p b short));
      model = r.model;
    }
