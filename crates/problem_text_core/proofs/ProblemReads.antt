-- The tree of a problem reads as the same problem.
use Rattle.std.proofs.Common.{◌≡◌, ℕ, ◌≤◌, true, false, ◌&&◌, List, [], ◌∷◌, ◌++◌, length, map, codes, refl, sym, ap, ◌∙◌, arith, subst, append_assoc, append-nil, Some, Result, Ok}
use Rattle.std.specs.Prelude.{All, nat_le, ok_or}
use Rattle.std.specs.List.{list_all, IsDistinct}
use Rattle.std.specs.Str.{bytes_eq}
use Rattle.std.proofs.lemmas.Bool.{and_parts}
use Rattle.std.proofs.lemmas.Bool.Decides.{nat_tests}
use Rattle.std.proofs.lemmas.List.{length-map, map-append}
use Rattle.std.proofs.lemmas.List.Elements.{All-head, All-tail}
use Rattle.yaml_core.specs.declared.node.Node.{Node}
use Rattle.yaml_core.specs.declared.node.Node.TheVariants as node
use Rattle.yaml_core.specs.Measured.{Entry, map_node, pair_of}
use Rattle.yaml_core.proofs.MeasureLemmas.{map-map}
use Rattle.lists_core.specs.Answers.{◌>>=◌, require}
use Rattle.problem_core.proofs.NamesFacts.{list_any-map}
use Rattle.problem_core.specs.Criterion.{is_criterion, is_criterion_name, is_scale}
use Rattle.problem_core.specs.Problem.{ProblemValue, IsProblem, criterion_names, has_name}
use Rattle.problem_core.specs.ReadNames.{names_of}
use Rattle.problem_core.specs.ReadProblem.{header_of, is_new_criterion_name, criterion_of, criteria_after, criteria_of, categories_of, problem_of}
use Rattle.problem_core.specs.ReadScale.{scale_of}
use Rattle.problem_core.specs.Tree.{has_count, items_under, says, is_map_in, is_text}
use Rattle.problem_core.specs.declared.criterion.Criterion.{Criterion}
use Rattle.problem_core.specs.declared.fault.ProblemFault.{ProblemFault}
use Rattle.problem_core.specs.declared.fault.ProblemFault.TheVariants as fault
use Rattle.problem_core.specs.declared.read_names.NameList.TheVariants.{Categories}
use Rattle.written_core.proofs.Lookups.{some-Scalar, some-Quoted, some-List, quoted-under, word-under, list-under}
use Rattle.problem_text_core.specs.ProblemText.{IsKeptCriterion, IsKept}
use Rattle.problem_text_core.proofs.Meaning.{criterion_entries, criterion_measured, category_measured, problem_entries, problem_measured}
use Rattle.problem_text_core.proofs.NameReads.{distinct-new, category-names-read}
use Rattle.problem_text_core.proofs.ScaleReads.{scale-read}

-- ---- a criterion

-- behind others whose names all differ, the name of a criterion is new
name-new : (earlier : List Criterion) (c : Criterion) (more : List Criterion) → IsDistinct bytes_eq (criterion_names (earlier ++ c ∷ more)) → has_name earlier c.name ≡ false
name-new earlier c more differ =
    sym (list_any-map (λ x. x.name) (bytes_eq c.name) earlier)
    ∙ distinct-new (criterion_names earlier) c.name (criterion_names more) (subst (IsDistinct bytes_eq) (map-append (λ x. x.name) earlier (c ∷ more)) differ)

new-criterion-name : (earlier : List Criterion) (name : List ℕ) → is_criterion_name name ≡ true → has_name earlier name ≡ false → is_new_criterion_name earlier name ≡ true
new-criterion-name earlier name good new = rw (good, new) refl

criterion-read : (earlier : List Criterion) (c : Criterion) → is_criterion c ≡ true → has_name earlier c.name ≡ false → IsKeptCriterion c → criterion_of earlier (criterion_measured c).node ≡ Ok c
unfolding criterion_of
criterion-read earlier c good new kept =
    let (name, scale) = and_parts (is_criterion_name c.name) (is_scale c.scale) good in
    let n = (criterion_measured c).node in
    let place = length earlier in
    ap (λ o. ok_or o (fault.CriterionForm place) >>= λ t. require (is_new_criterion_name earlier t) (fault.CriterionName place) >>= λ _. scale_of place n >>= λ s. Ok (record { name = t; scale = s }))
    (quoted-under (codes "name") (criterion_entries c) c.name (some-Quoted c.name))
    ∙ ap (λ b. require b (fault.CriterionName place) >>= λ _. scale_of place n >>= λ s. Ok (record { name = c.name; scale = s })) (new-criterion-name earlier c.name name new)
    ∙ ap (λ r. r >>= λ s. Ok (record { name = c.name; scale = s })) (scale-read place c.name c.scale scale kept.1)

-- ---- criteria and categories

abbrev criterion_node : Criterion → Node
criterion_node c = (criterion_measured c).node

criteria-after-read : (earlier cs : List Criterion) → list_all is_criterion cs ≡ true → IsDistinct bytes_eq (criterion_names (earlier ++ cs)) → All IsKeptCriterion cs
    → criteria_after earlier (map criterion_node cs) ≡ Ok (earlier ++ cs)
unfolding criteria_after
criteria-after-read earlier [] good differ kept = ap (λ (xs : List Criterion). Ok xs) (sym (append-nil earlier))
criteria-after-read earlier (c ∷ cs) good differ kept =
    let (first, others) = and_parts (is_criterion c) (list_all is_criterion cs) good in
    ap (λ r. r >>= λ x. criteria_after (earlier ++ x ∷ []) (map criterion_node cs)) (criterion-read earlier c first (name-new earlier c cs differ) (All-head IsKeptCriterion c cs kept))
    ∙ criteria-after-read (earlier ++ c ∷ []) cs others (subst (λ xs. IsDistinct bytes_eq (criterion_names xs)) (sym (append_assoc earlier (c ∷ []) cs)) differ) (All-tail IsKeptCriterion c cs kept)
    ∙ ap (λ (xs : List Criterion). Ok xs) (append_assoc earlier (c ∷ []) cs)

-- so many items, as a list in the limits has
counted : (least most n k : ℕ) → n ≡ k → least ≤ k → k ≤ most → (nat_le least n && nat_le n most) ≡ true
counted least most n k same low high =
    let from : nat_le least n ≡ true = grind (arith, nat_tests) in
    let to : nat_le n most ≡ true = grind (arith, nat_tests) in
    rw (from, to) refl

module _ (p : ProblemValue) (whole : IsProblem p) (kept : IsKept p) where
  abbrev es : List Entry
  es = problem_entries p

  abbrev tree : Node
  tree = (map_node es).node

  header-read : header_of tree ≡ Ok tt
  unfolding header_of
  header-read =
      ap (λ b. require b fault.NotAMap >>= λ _. require (says (codes "kind") (codes "classification-problem") tree) fault.Kind >>= λ _. require (says (codes "format_version") (codes "1") tree) fault.Version) (ap is_map_in (node.outs-Map (map pair_of es)))
      ∙ ap (λ b. require b fault.Kind >>= λ _. require (says (codes "format_version") (codes "1") tree) fault.Version)
      (ap (is_text (codes "classification-problem")) (word-under (codes "kind") es (codes "classification-problem") (some-Scalar (codes "classification-problem"))))
      ∙ ap (λ b. require b fault.Version) (ap (is_text (codes "1")) (word-under (codes "format_version") es (codes "1") (some-Scalar (codes "1"))))

  criteria-found : items_under (codes "criteria") tree ≡ Some (map criterion_node p.criteria)
  criteria-found =
      let ns = map (λ m. m.node) (map criterion_measured p.criteria) in
      list-under (codes "criteria") es ns (some-List ns) ∙ ap (λ (xs : List Node). Some xs) (map-map (λ m. m.node) criterion_measured p.criteria)

  categories-found : items_under (codes "ordered_categories") tree ≡ Some (map (λ t. (category_measured t).node) p.categories)
  categories-found =
      let ns = map (λ m. m.node) (map category_measured p.categories) in
      list-under (codes "ordered_categories") es ns (some-List ns) ∙ ap (λ (xs : List Node). Some xs) (map-map (λ m. m.node) category_measured p.categories)

  criteria-read : criteria_of tree ≡ Ok p.criteria
  unfolding criteria_of
  criteria-read =
      let ns = map criterion_node p.criteria in
      ap (λ o. ok_or o fault.NoCriteria >>= λ items. require (has_count 1 16 items) fault.CriteriaCount >>= λ _. criteria_after [] items) criteria-found
      ∙ ap (λ b. require b fault.CriteriaCount >>= λ _. criteria_after [] ns) (counted 1 16 (length ns) (length p.criteria) (length-map p.criteria criterion_node) whole.some_criteria whole.few_criteria)
      ∙ criteria-after-read [] p.criteria whole.good_criteria whole.criteria_differ kept.criteria

  categories-read : categories_of tree ≡ Ok p.categories
  unfolding categories_of
  categories-read =
      let ns = map (λ t. (category_measured t).node) p.categories in
      ap (λ o. ok_or o fault.NoCategories >>= λ items. require (has_count 2 10 items) fault.CategoriesCount >>= λ _. names_of Categories [] items) categories-found
      ∙ ap (λ b. require b fault.CategoriesCount >>= λ _. names_of Categories [] ns) (counted 2 10 (length ns) (length p.categories) (length-map p.categories (λ t. (category_measured t).node)) whole.some_categories whole.few_categories)
      ∙ category-names-read p.categories whole.good_categories kept.categories.0

  pub problem-read : problem_of (problem_measured p).node ≡ Ok p
  unfolding problem_of
  problem-read =
      ap (λ (r : Result (Unit {0}) ProblemFault). r >>= λ _. criteria_of tree >>= λ cs. categories_of tree >>= λ ks. Ok (record { criteria = cs; categories = ks })) header-read
      ∙ ap (λ r. r >>= λ cs. categories_of tree >>= λ ks. Ok (record { criteria = cs; categories = ks })) criteria-read
      ∙ ap (λ r. r >>= λ ks. Ok (record { criteria = p.criteria; categories = ks })) categories-read
