-- Scales as they are written read as the same scales.
use Rattle.std.proofs.Common.{◌≡◌, ℕ, ◌≤◌, ◌^◌, Bool, true, false, not, ◌&&◌, ◌||◌, ℤ, List, [], ◌∷◌, length, map, codes, refl, sym, ap, ◌∙◌, Some, None, Ok, true≢false}
use Rattle.std.specs.Prelude.{nat_le, int_le, unsigned_abs, option_and_then, ok_or, if◌then◌else◌}
use Rattle.std.specs.List.{list_all}
use Rattle.std.specs.Result.{result_ok}
use Rattle.std.proofs.lemmas.Bool.{and_parts}
use Rattle.std.proofs.lemmas.List.{length-map}
use Rattle.fixed_core.specs.Spelling.{spelling}
use Rattle.fixed_core.specs.Value.{fixed_of}
use Rattle.fixed_core.proofs.ReadsBack.{spelling-reads}
use Rattle.yaml_core.specs.declared.node.Node.{Node}
use Rattle.yaml_core.specs.declared.node.Node.TheVariants as node
use Rattle.yaml_core.specs.Lookup.{unless_null, value_at}
use Rattle.yaml_core.specs.Measured.{Entry, map_node}
use Rattle.lists_core.specs.Answers.{◌>>=◌, require}
use Rattle.yaml_core.specs.Tree.{plain_node}
use Rattle.written_core.specs.Document.{Text}
use Rattle.written_core.specs.Outline.{scalar_leaf}
use Rattle.problem_core.specs.Criterion.{are_bounds, is_scale}
use Rattle.problem_core.specs.Grade.{is_whole}
use Rattle.problem_core.specs.Name.{is_good_name}
use Rattle.problem_core.specs.ReadNames.{names_of}
use Rattle.problem_core.specs.ReadScale.{direction_named, number_if_whole, bound_of, bounds_between, bounds_of, greatest_number, least_number, numbers_towards, number_scale_of, name_scale_of, scale_by, scale_of, value_type_named}
use Rattle.problem_core.specs.Tree.{has_count, items_under}
use Rattle.problem_core.specs.declared.criterion.Bounds.{Bounds}
use Rattle.problem_core.specs.declared.criterion.Scale.{Scale}
use Rattle.problem_core.specs.declared.criterion.Scale.TheVariants.{Rising, Falling, Named}
use Rattle.problem_core.specs.declared.fault.ProblemFault.TheVariants as fault
use Rattle.problem_core.specs.declared.read_names.NameList.TheVariants as list
use Rattle.problem_core.specs.declared.read_scale.Direction.{Direction}
use Rattle.problem_core.specs.declared.read_scale.Direction.TheVariants as direction
use Rattle.written_core.proofs.Lookups.{found, text-Scalar, some-Scalar, some-List, value-Map, word-under, list-under}
use Rattle.written_core.proofs.Lists.{quoted_leaf, nodes-scalars}
use Rattle.written_core.proofs.Words.{spelling-word, number-node}
use Rattle.problem_text_core.specs.ProblemText.{AreNames, AreNumbers, IsKeptScale}
use Rattle.problem_text_core.proofs.Meaning.{number_entries, name_entries, criterion_measured}
use Rattle.problem_text_core.proofs.NameReads.{scale-names-read}

-- the entries of a criterion with a scale of numbers, and of one with a scale of names
abbrev number_item : List ℕ → List ℕ → Bounds → List Entry
number_item name direction bounds = (codes "name", quoted_leaf name) ∷ number_entries direction bounds

abbrev name_item : List ℕ → List (List ℕ) → List Entry
name_item name names = (codes "name", quoted_leaf name) ∷ name_entries names

-- ---- numbers

-- a spelled number is no null
spelled-some : (z : ℤ) → unsigned_abs z ≤ 10 ^ 36 → unless_null (plain_node (spelling z)) ≡ Some (node.Scalar (spelling z))
spelled-some z small = ap unless_null (number-node (spelling z) (spelling-word z small)) ∙ some-Scalar (spelling z)

number-asked : (whole : Bool) (z : ℤ) → (not whole || is_whole z) ≡ true → number_if_whole whole z ≡ Some z
number-asked whole z asked = by_tests whole (is_whole z) asked
  where
    by_tests : (w i : Bool) → (not w || i) ≡ true → (if w && not i then None else Some z) ≡ Some z
    by_tests true true h = refl
    by_tests true false h = absurd (true≢false (sym h))
    by_tests false true h = refl
    by_tests false false h = refl

bound-read : (whole : Bool) (missing z : ℤ) → unsigned_abs z ≤ 10 ^ 36 → (not whole || is_whole z) ≡ true → bound_of whole missing (Some (node.Scalar (spelling z))) ≡ Some z
bound-read whole missing z small asked =
    ap (λ o. option_and_then (number_if_whole whole) (option_and_then (λ (text : List ℕ). result_ok (fixed_of text)) o)) (text-Scalar (spelling z))
    ∙ ap (λ r. option_and_then (number_if_whole whole) (result_ok r)) (spelling-reads z small)
    ∙ number-asked whole z asked

-- both ends are whole if every number is
ends-asked : (whole a b : Bool) → (not whole || (a && b)) ≡ true → ((not whole || a) ≡ true) × ((not whole || b) ≡ true)
ends-asked true a b h = and_parts a b h
ends-asked false a b h = (refl, refl)

between-read : (bounds : Bounds) → int_le bounds.least bounds.most ≡ true → bounds_between bounds.whole (Some bounds.least) (Some bounds.most) ≡ Some bounds
between-read bounds h = rw h refl

bounds-read : (name direction : List ℕ) (bounds : Bounds) → are_bounds bounds ≡ true → AreNumbers bounds → bounds_of bounds.whole (map_node (number_item name direction bounds)).node ≡ Some bounds
bounds-read name direction bounds good small =
    let es = number_item name direction bounds in
    let w = bounds.whole in
    let (ordered, asked) = and_parts (int_le bounds.least bounds.most) (not w || (is_whole bounds.least && is_whole bounds.most)) good in
    let (least_asked, most_asked) = ends-asked w (is_whole bounds.least) (is_whole bounds.most) asked in
    let least : bound_of w least_number (value_at (codes "min_value") (map_node es).node) ≡ Some bounds.least =
    ap (bound_of w least_number) (value-Map (codes "min_value") es ∙ spelled-some bounds.least small.0) ∙ bound-read w least_number bounds.least small.0 least_asked in
    let most : bound_of w greatest_number (value_at (codes "max_value") (map_node es).node) ≡ Some bounds.most =
    ap (bound_of w greatest_number) (value-Map (codes "max_value") es ∙ spelled-some bounds.most small.1) ∙ bound-read w greatest_number bounds.most small.1 most_asked in
    (λ i. bounds_between w (least i) (most i)) ∙ between-read bounds ordered

-- the word of a direction
pub record IsDirection (direction : List ℕ) (towards : Direction) : Type 0 where
  pub some : plain_node direction ≡ node.Scalar direction
  pub named : direction_named direction ≡ Some towards

number-scale-read : (place : ℕ) (name direction : List ℕ) (towards : Direction) (bounds : Bounds) → IsDirection direction towards → are_bounds bounds ≡ true → AreNumbers bounds
    → number_scale_of bounds.whole place (map_node (number_item name direction bounds)).node ≡ Ok (numbers_towards towards bounds)
unfolding number_scale_of
number-scale-read place name direction towards bounds word good small =
    let es = number_item name direction bounds in
    let n = (map_node es).node in
    let there : found (codes "preference_direction") es ≡ Some (node.Scalar direction) = ap unless_null word.some ∙ some-Scalar direction in
    ap (λ o. ok_or o (fault.Direction place) >>= λ d. ok_or (bounds_of bounds.whole n) (fault.Bounds place) >>= λ b. Ok (numbers_towards d b))
    (ap (option_and_then direction_named) (word-under (codes "preference_direction") es direction there) ∙ word.named)
    ∙ ap (λ o. ok_or o (fault.Bounds place) >>= λ b. Ok (numbers_towards towards b)) (bounds-read name direction bounds good small)

abbrev of_type : Bool → ℤ → ℤ → Bounds
of_type whole least most = record { least = least; most = most; whole = whole }

-- a scale of numbers, by the word for its type
numbers-read : (place : ℕ) (name direction : List ℕ) (towards : Direction) (whole : Bool) (least most : ℤ) → IsDirection direction towards → are_bounds (of_type whole least most) ≡ true → AreNumbers (of_type whole least most)
    → scale_of place (map_node (number_item name direction (of_type whole least most))).node ≡ Ok (numbers_towards towards (of_type whole least most))
unfolding scale_of
numbers-read place name direction towards true least most word good small =
    let es = number_item name direction (of_type true least most) in
    ap (λ o. ok_or (option_and_then value_type_named o) (fault.ValueType place) >>= λ type. scale_by type place (map_node es).node) (word-under (codes "value_type") es (codes "integer") (some-Scalar (codes "integer")))
    ∙ number-scale-read place name direction towards (of_type true least most) word good small
numbers-read place name direction towards false least most word good small =
    let es = number_item name direction (of_type false least most) in
    ap (λ o. ok_or (option_and_then value_type_named o) (fault.ValueType place) >>= λ type. scale_by type place (map_node es).node) (word-under (codes "value_type") es (codes "real") (some-Scalar (codes "real")))
    ∙ number-scale-read place name direction towards (of_type false least most) word good small

-- ---- names

names-found : (name : List ℕ) (names : List (List ℕ)) → items_under (codes "ordered_values") (map_node (name_item name names)).node ≡ Some (map (λ t. node.Quoted t) names)
names-found name names =
    let ns = map (λ m. m.node) (map scalar_leaf (map Text names)) in
    list-under (codes "ordered_values") (name_item name names) ns (some-List ns) ∙ ap (λ (xs : List Node). Some xs) (nodes-scalars (λ t. Text t) names)

named-read : (place : ℕ) (name : List ℕ) (names : List (List ℕ)) → is_scale (Named names) ≡ true → AreNames names → scale_of place (map_node (name_item name names)).node ≡ Ok (Named names)
unfolding scale_of name_scale_of
named-read place name names good kept =
    let es = name_item name names in
    let ns = map (λ t. node.Quoted t) names in
    let (few, all) = and_parts (nat_le 2 (length names) && nat_le (length names) 1000) (list_all is_good_name names) good in
    let counted : has_count 2 1000 ns ≡ true = ap (λ k. nat_le 2 k && nat_le k 1000) (length-map names (λ t. node.Quoted t)) ∙ few in
    ap (λ o. ok_or (option_and_then value_type_named o) (fault.ValueType place) >>= λ type. scale_by type place (map_node es).node) (word-under (codes "value_type") es (codes "enumerated") (some-Scalar (codes "enumerated")))
    ∙ ap (λ o. ok_or o (fault.Names place) >>= λ items. require (has_count 2 1000 items) (fault.Names place) >>= λ _. names_of (list.Scale place) [] items >>= λ xs. Ok (Named xs)) (names-found name names)
    ∙ ap (λ b. require b (fault.Names place) >>= λ _. names_of (list.Scale place) [] ns >>= λ xs. Ok (Named xs)) counted
    ∙ ap (λ r. r >>= λ xs. Ok (Named xs)) (scale-names-read place names all kept.0)

-- ---- any scale

pub scale-read : (place : ℕ) (name : List ℕ) (scale : Scale) → is_scale scale ≡ true → IsKeptScale scale → scale_of place (criterion_measured (record { name = name; scale = scale })).node ≡ Ok scale
scale-read place name (Rising bounds) good kept = numbers-read place name (codes "increasing") direction.Rising bounds.whole bounds.least bounds.most (record { some = refl; named = refl }) good kept
scale-read place name (Falling bounds) good kept = numbers-read place name (codes "decreasing") direction.Falling bounds.whole bounds.least bounds.most (record { some = refl; named = refl }) good kept
scale-read place name (Named names) good kept = named-read place name names good kept
