-- How many nodes the tree of a problem has.
use Rattle.std.proofs.Common.{◌≡◌, ℕ, ◌*◌, ◌≤◌, true, ◌&&◌, List, [], ◌∷◌, length, map, codes, refl, arith}
use Rattle.std.specs.Prelude.{nat_le}
use Rattle.std.specs.List.{list_all}
use Rattle.std.proofs.lemmas.Bool.{and_parts, leb-true}
use Rattle.std.proofs.lemmas.List.{length-map}
use Rattle.fixed_core.specs.Spelling.{spelling}
use Rattle.yaml_core.specs.Kept.{count_of}
use Rattle.yaml_core.specs.Measured.{map_node}
use Rattle.yaml_core.specs.Size.{node_count}
use Rattle.yaml_core.proofs.MeasureLemmas.{count-Quoted, count-list, count-map}
use Rattle.written_core.specs.Document.{Word, Text}
use Rattle.problem_core.specs.Criterion.{is_criterion, is_criterion_name, is_scale}
use Rattle.problem_core.specs.Name.{is_good_name}
use Rattle.problem_core.specs.Problem.{ProblemValue, IsProblem}
use Rattle.problem_core.specs.declared.criterion.Bounds.{Bounds}
use Rattle.problem_core.specs.declared.criterion.Criterion.{Criterion}
use Rattle.problem_core.specs.declared.criterion.Scale.{Scale}
use Rattle.problem_core.specs.declared.criterion.Scale.TheVariants.{Rising, Falling, Named}
use Rattle.written_core.proofs.Lists.{quoted_leaf, count-more, scalar-count, flow-count}
use Rattle.problem_text_core.specs.ProblemText.{type_word}
use Rattle.problem_text_core.proofs.Meaning.{number_entries, name_entries, criterion_measured, category_measured, problem_entries, problem_measured}

-- ---- criteria

numbers-few : (name direction : List ℕ) (b : Bounds) → node_count (map_node ((codes "name", quoted_leaf name) ∷ number_entries direction b)).node ≤ 1004
numbers-few name direction b =
    let all = count-map ((codes "name", quoted_leaf name) ∷ number_entries direction b) in
    let t = scalar-count (Word (type_word b.whole)) in
    let d = scalar-count (Word direction) in
    let least = scalar-count (Word (spelling b.least)) in
    let most = scalar-count (Word (spelling b.most)) in
    omega (arith, all, count-Quoted name, t, d, least, most)

names-few : (name : List ℕ) (names : List (List ℕ)) → length names ≤ 1000 → node_count (map_node ((codes "name", quoted_leaf name) ∷ name_entries names)).node ≤ 1004
names-few name names few =
    let all = count-map ((codes "name", quoted_leaf name) ∷ name_entries names) in
    let t = scalar-count (Word (codes "enumerated")) in
    omega (arith, all, count-Quoted name, t, flow-count (map Text names), length-map names (λ t. Text t), few)

few-names : (names : List (List ℕ)) → is_scale (Named names) ≡ true → length names ≤ 1000
few-names names good =
    let (counts, all) = and_parts (nat_le 2 (length names) && nat_le (length names) 1000) (list_all is_good_name names) good in
    let (low, high) = and_parts (nat_le 2 (length names)) (nat_le (length names) 1000) counts in
    leb-true (length names) 1000 high

scale-few : (name : List ℕ) (s : Scale) → is_scale s ≡ true → node_count (criterion_measured (record { name = name; scale = s })).node ≤ 1004
scale-few name (Rising b) good = numbers-few name (codes "increasing") b
scale-few name (Falling b) good = numbers-few name (codes "decreasing") b
scale-few name (Named names) good = names-few name names (few-names names good)

criterion-few : (c : Criterion) → is_criterion c ≡ true → node_count (criterion_measured c).node ≤ 1004
criterion-few c good = let (name, scale) = and_parts (is_criterion_name c.name) (is_scale c.scale) good in scale-few c.name c.scale scale

criteria-few : (cs : List Criterion) → list_all is_criterion cs ≡ true → count_of (map criterion_measured cs) ≤ length cs * 1004
criteria-few [] good = omega arith
criteria-few (c ∷ cs) good =
    let (first, others) = and_parts (is_criterion c) (list_all is_criterion cs) good in
    let one = criterion-few c first in
    let more = criteria-few cs others in
    omega (arith, count-more (criterion_measured c) (map criterion_measured cs), one, more)

-- ---- categories

category-two : (name : List ℕ) → node_count (category_measured name).node ≡ 2
category-two name = let all = count-map ((codes "name", quoted_leaf name) ∷ []) in omega (arith, all, count-Quoted name)

categories-two : (names : List (List ℕ)) → count_of (map category_measured names) ≡ length names * 2
categories-two [] = refl
categories-two (n ∷ ns) = let one = category-two n in let more = categories-two ns in omega (arith, count-more (category_measured n) (map category_measured ns), one, more)

-- ---- the problem

pub problem-few : (p : ProblemValue) → IsProblem p → node_count (problem_measured p).node ≤ 16777216
problem-few p whole =
    let all = count-map (problem_entries p) in
    let kind = scalar-count (Word (codes "classification-problem")) in
    let version = scalar-count (Word (codes "1")) in
    let criteria = count-list (map criterion_measured p.criteria) in
    let categories = count-list (map category_measured p.categories) in
    omega (arith, all, kind, version, criteria, categories, criteria-few p.criteria whole.good_criteria, categories-two p.categories, whole.few_criteria, whole.few_categories)
