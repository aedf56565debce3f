-- What reading makes of a problem's outline: a tree whose nodes are named here.
use Rattle.std.proofs.Common.{◌≡◌, ℕ, suc, ◌<◌, true, List, [], ◌∷◌, ◌++◌, length, map, codes, refl, sym, ap, ◌∙◌, append-nil, arith, Option, Some}
use Rattle.std.specs.Prelude.{option_map}
use Rattle.fixed_core.specs.Spelling.{spelling}
use Rattle.yaml_core.specs.Measured.{Measured, Entry, list_node, map_node}
use Rattle.yaml_core.specs.Reading.{Names, gives, and_then}
use Rattle.yaml_core.specs.Tree.{adding}
use Rattle.problem_core.specs.Problem.{ProblemValue, IsProblem}
use Rattle.problem_core.specs.declared.criterion.Bounds.{Bounds}
use Rattle.problem_core.specs.declared.criterion.Criterion.{Criterion}
use Rattle.problem_core.specs.declared.criterion.Scale.{Scale}
use Rattle.problem_core.specs.declared.criterion.Scale.TheVariants.{Rising, Falling, Named}
use Rattle.written_core.specs.Document.{Text}
use Rattle.written_core.specs.Outline.{Outline, Under, End, are_items, scalar_leaf, entries_by, items_by, block_of, meaning, outline_measured}
use Rattle.written_core.proofs.Lists.{word_leaf, quoted_leaf, listed-meant, item-then}
use Rattle.problem_text_core.specs.ProblemText.{type_word, criterion_outline, criteria_outline, category_outline, categories_outline, problem_outline}

-- ---- the nodes

abbrev pub number_entries : List ℕ → Bounds → List Entry
number_entries direction bounds =
    (codes "value_type", word_leaf (type_word bounds.whole)) ∷ (codes "preference_direction", word_leaf direction)
    ∷ (codes "min_value", word_leaf (spelling bounds.least)) ∷ (codes "max_value", word_leaf (spelling bounds.most)) ∷ []

abbrev pub names_measured : List (List ℕ) → Measured
names_measured names = list_node (map scalar_leaf (map Text names))

abbrev pub name_entries : List (List ℕ) → List Entry
name_entries names = (codes "value_type", word_leaf (codes "enumerated")) ∷ (codes "ordered_values", names_measured names) ∷ []

abbrev pub scale_entries : Scale → List Entry
scale_entries (Rising bounds) = number_entries (codes "increasing") bounds
scale_entries (Falling bounds) = number_entries (codes "decreasing") bounds
scale_entries (Named names) = name_entries names

abbrev pub criterion_entries : Criterion → List Entry
criterion_entries criterion = (codes "name", quoted_leaf criterion.name) ∷ scale_entries criterion.scale

abbrev pub criterion_measured : Criterion → Measured
criterion_measured criterion = map_node (criterion_entries criterion)

abbrev pub category_measured : List ℕ → Measured
category_measured name = map_node ((codes "name", quoted_leaf name) ∷ [])

abbrev pub problem_entries : ProblemValue → List Entry
problem_entries problem =
    (codes "kind", word_leaf (codes "classification-problem")) ∷ (codes "format_version", word_leaf (codes "1"))
    ∷ (codes "criteria", list_node (map criterion_measured problem.criteria))
    ∷ (codes "ordered_categories", list_node (map category_measured problem.categories)) ∷ []

abbrev pub problem_measured : ProblemValue → Measured
problem_measured problem = map_node (problem_entries problem)

-- ---- lists

criterion-meant : (d : ℕ) (c : Criterion) (names : Names) → meaning (suc (suc (suc d))) (criterion_outline c) names ≡ Some (criterion_measured c, names)
unfolding meaning
criterion-meant d c names = by_scale c.scale
  where
    by_scale : (s : Scale) → meaning (suc (suc (suc d))) (criterion_outline (record { name = c.name; scale = s })) names ≡ Some (criterion_measured (record { name = c.name; scale = s }), names)
    by_scale (Rising bounds) = refl
    by_scale (Falling bounds) = refl
    by_scale (Named []) = refl
    by_scale (Named (n ∷ ns)) = refl

criteria-meant : (d : ℕ) (before : List Measured) (cs : List Criterion) (names : Names)
    → items_by (meaning (suc (suc (suc d)))) before (criteria_outline cs) names ≡ Some (before ++ map criterion_measured cs, names)
criteria-meant d before [] names = ap (λ (ns : List Measured). Some (ns, names)) (sym (append-nil before))
criteria-meant d before (c ∷ cs) names =
    item-then (meaning (suc (suc (suc d)))) before (criterion_outline c) (criteria_outline cs) (criterion_measured c) (map criterion_measured cs) names names names
    (criterion-meant d c names) (criteria-meant d (before ++ criterion_measured c ∷ []) cs names)

category-meant : (d : ℕ) (name : List ℕ) (names : Names) → meaning (suc (suc (suc d))) (category_outline name) names ≡ Some (category_measured name, names)
unfolding meaning
category-meant d name names = refl

categories-meant : (d : ℕ) (before : List Measured) (cs : List (List ℕ)) (names : Names)
    → items_by (meaning (suc (suc (suc d)))) before (categories_outline cs) names ≡ Some (before ++ map category_measured cs, names)
categories-meant d before [] names = ap (λ (ns : List Measured). Some (ns, names)) (sym (append-nil before))
categories-meant d before (c ∷ cs) names =
    item-then (meaning (suc (suc (suc d)))) before (category_outline c) (categories_outline cs) (category_measured c) (map category_measured cs) names names names
    (category-meant d c names) (categories-meant d (before ++ category_measured c ∷ []) cs names)

pub criteria-items : (cs : List Criterion) → are_items (criteria_outline cs) ≡ true
criteria-items [] = refl
criteria-items (c ∷ cs) = refl

pub categories-items : (cs : List (List ℕ)) → are_items (categories_outline cs) ≡ true
categories-items [] = refl
categories-items (c ∷ cs) = refl

criteria-list : (d : ℕ) (c : Criterion) (cs : List Criterion) (names : Names)
    → meaning (suc (suc (suc (suc d)))) (criteria_outline (c ∷ cs)) names ≡ Some (list_node (map criterion_measured (c ∷ cs)), names)
criteria-list d c cs names =
    listed-meant (suc (suc d)) (criteria_outline (c ∷ cs)) (map criterion_measured (c ∷ cs)) names names refl (criteria-meant d [] (c ∷ cs) names)

categories-list : (d : ℕ) (c : List ℕ) (cs : List (List ℕ)) (names : Names)
    → meaning (suc (suc (suc (suc d)))) (categories_outline (c ∷ cs)) names ≡ Some (list_node (map category_measured (c ∷ cs)), names)
categories-list d c cs names =
    listed-meant (suc (suc d)) (categories_outline (c ∷ cs)) (map category_measured (c ∷ cs)) names names refl (categories-meant d [] (c ∷ cs) names)

-- ---- the problem

abbrev before_criteria : List Entry
before_criteria = (codes "kind", word_leaf (codes "classification-problem")) ∷ (codes "format_version", word_leaf (codes "1")) ∷ []

-- what follows the criteria, and what follows the categories
abbrev after_criteria : ℕ → Outline → Option (Measured × Names) → Option (Measured × Names)
after_criteria d categories o = and_then (λ es. gives (map_node es)) (and_then (λ es. entries_by (meaning d) es (Under (codes "ordered_categories") categories End)) (and_then (adding before_criteria (codes "criteria")) o))

abbrev after_categories : Measured → Option (Measured × Names) → Option (Measured × Names)
after_categories criteria o = and_then (λ es. gives (map_node es)) (and_then (λ es. gives es) (and_then (adding (before_criteria ++ (codes "criteria", criteria) ∷ []) (codes "ordered_categories")) o))

-- a problem with a criterion and a category
abbrev whole : Criterion → List Criterion → List ℕ → List (List ℕ) → ProblemValue
whole c cs k ks = record { criteria = c ∷ cs; categories = k ∷ ks }

problem-block : (d : ℕ) (c : Criterion) (cs : List Criterion) (k : List ℕ) (ks : List (List ℕ))
    → block_of (meaning (suc (suc (suc (suc d))))) (problem_outline (whole c cs k ks)) [] ≡ Some (problem_measured (whole c cs k ks), [])
unfolding meaning
problem-block d c cs k ks =
    ap (after_criteria (suc (suc (suc (suc d)))) (categories_outline (k ∷ ks))) (criteria-list d c cs [])
    ∙ ap (after_categories (list_node (map criterion_measured (c ∷ cs)))) (categories-list d k ks [])

problem-outlined-whole : (c : Criterion) (cs : List Criterion) (k : List ℕ) (ks : List (List ℕ)) → outline_measured (problem_outline (whole c cs k ks)) ≡ Some (problem_measured (whole c cs k ks))
problem-outlined-whole c cs k ks = ap (option_map (λ (p : Measured × Names). p.0)) (problem-block 59 c cs k ks)

by-lists : (cs : List Criterion) (ks : List (List ℕ)) → 0 < length cs → 0 < length ks → outline_measured (problem_outline (record { criteria = cs; categories = ks })) ≡ Some (problem_measured (record { criteria = cs; categories = ks }))
by-lists [] ks some more = absurd (omega arith)
by-lists (c ∷ cs) [] some more = absurd (omega arith)
by-lists (c ∷ cs) (k ∷ ks) some more = problem-outlined-whole c cs k ks

-- the tree of a problem's outline
pub problem-outlined : (p : ProblemValue) → IsProblem p → outline_measured (problem_outline p) ≡ Some (problem_measured p)
problem-outlined p whole =
    let criteria = whole.some_criteria in
    let categories = whole.some_categories in
    by-lists p.criteria p.categories (omega (arith, criteria)) (omega (arith, categories))
