-- The text of a model that belongs to its problem reads as the same model.
use Rattle.std.proofs.Common.{◌≡◌, ℕ, ◌≤◌, true, List, [], ◌∷◌, length, map, codes, refl, ap, ◌∙◌, arith, Option, Some, Result, Ok}
use Rattle.std.specs.Prelude.{◌==◌, ok_or}
use Rattle.std.proofs.lemmas.Bool.Decides.{nat_tests}
use Rattle.std.proofs.lemmas.List.{length-map}
use Rattle.yaml_core.specs.declared.node.Node.{Node}
use Rattle.yaml_core.specs.declared.node.Node.TheVariants as node
use Rattle.yaml_core.specs.Measured.{Entry, list_node, map_node, pair_of}
use Rattle.problem_core.specs.Problem.{ProblemValue}
use Rattle.problem_core.specs.Tree.{items_under, says, is_map_in, is_text}
use Rattle.model_core.specs.Model.{boundaries_of, Belongs}
use Rattle.lists_core.specs.Answers.{◌>>=◌, require}
use Rattle.model_core.specs.ReadAccepted.{all_accepted}
use Rattle.model_core.specs.ReadCoalitions.{all_coalitions}
use Rattle.model_core.specs.ReadModel.{sized, header_of, model_of}
use Rattle.model_core.specs.declared.model.Coalitions.{Coalitions}
use Rattle.model_core.specs.declared.model.Profile.{Profile}
use Rattle.model_core.specs.Model.{ModelValue}
use Rattle.model_core.specs.declared.model_fault.ModelFault.{ModelFault}
use Rattle.model_core.specs.declared.model_fault.ModelFault.TheVariants as fault
use Rattle.written_core.proofs.Lookups.{some-Scalar, some-List, word-under, list-under}
use Rattle.written_core.proofs.Lists.{word_leaf}
use Rattle.model_text_core.proofs.Meaning.{accepted_measured, coalition_measured, model_measured}
use Rattle.model_text_core.proofs.RootReads.{coalitions-read}
use Rattle.model_text_core.proofs.Grades.{all-accepted-read, length-accepted}

abbrev entries : ProblemValue → ModelValue → List Entry
entries problem m =
    (codes "kind", word_leaf (codes "ncs-classification-model")) ∷ (codes "format_version", word_leaf (codes "1"))
    ∷ (codes "accepted_values", list_node (accepted_measured problem.criteria m.profiles))
    ∷ (codes "sufficient_coalitions", list_node (map (coalition_measured (length problem.criteria)) m.coalitions)) ∷ []

abbrev accepted_nodes : ProblemValue → ModelValue → List Node
accepted_nodes problem m = map (λ x. x.node) (accepted_measured problem.criteria m.profiles)

abbrev coalition_nodes : ProblemValue → ModelValue → List Node
coalition_nodes problem m = map (λ x. x.node) (map (coalition_measured (length problem.criteria)) m.coalitions)

module _ (problem : ProblemValue) (m : ModelValue) where
  header-read : header_of (model_measured problem m).node ≡ Ok tt
  unfolding header_of
  header-read =
      ap (λ b. require b fault.NotAMap >>= λ _. require (says (codes "kind") (codes "ncs-classification-model") (map_node (entries problem m)).node) fault.Kind >>= λ _.
      require (says (codes "format_version") (codes "1") (map_node (entries problem m)).node) fault.Version) (ap is_map_in (node.outs-Map (map pair_of (entries problem m))))
      ∙ ap (λ b. require b fault.Kind >>= λ _. require (says (codes "format_version") (codes "1") (map_node (entries problem m)).node) fault.Version)
      (ap (is_text (codes "ncs-classification-model")) (word-under (codes "kind") (entries problem m) (codes "ncs-classification-model") (some-Scalar (codes "ncs-classification-model"))))
      ∙ ap (λ b. require b fault.Version) (ap (is_text (codes "1")) (word-under (codes "format_version") (entries problem m) (codes "1") (some-Scalar (codes "1"))))

  accepted-found : items_under (codes "accepted_values") (model_measured problem m).node ≡ Some (accepted_nodes problem m)
  accepted-found = list-under (codes "accepted_values") (entries problem m) (accepted_nodes problem m) (some-List (accepted_nodes problem m))

  coalitions-found : items_under (codes "sufficient_coalitions") (model_measured problem m).node ≡ Some (coalition_nodes problem m)
  coalitions-found = list-under (codes "sufficient_coalitions") (entries problem m) (coalition_nodes problem m) (some-List (coalition_nodes problem m))

sized-by : (count : ℕ) (items : List Node) → length items ≡ count → sized count (Some items) ≡ Some items
sized-by count items h = rw (same-numbers (length items) count h) refl
  where
    same-numbers : (a b : ℕ) → a ≡ b → (a == b) ≡ true
    same-numbers a b e = grind (arith, nat_tests)

-- what is left of reading, from each place on
abbrev with_roots : List Profile → Result (List Coalitions) ModelFault → Result ModelValue ModelFault
with_roots thresholds roots = roots >>= λ rs. Ok (record { profiles = thresholds; coalitions = rs })

abbrev with_coalitions : ProblemValue → List Profile → Option (List Node) → Result ModelValue ModelFault
with_coalitions problem thresholds coalitions = ok_or coalitions fault.NoCoalitions >>= λ cs. with_roots thresholds (all_coalitions (length problem.criteria) [] cs)

abbrev with_thresholds : ProblemValue → Node → Result (List Profile) ModelFault → Result ModelValue ModelFault
with_thresholds problem n thresholds = thresholds >>= λ ts. with_coalitions problem ts (sized (boundaries_of problem) (items_under (codes "sufficient_coalitions") n))

abbrev with_accepted : ProblemValue → Node → Option (List Node) → Result ModelValue ModelFault
with_accepted problem n accepted = ok_or accepted fault.NoAccepted >>= λ items. with_thresholds problem n (all_accepted (boundaries_of problem) [] problem.criteria items)

-- the tree of a model that belongs to its problem reads as the model
pub model-read : (problem : ProblemValue) (m : ModelValue) → length problem.criteria ≤ 32 → Belongs problem m → model_of problem (model_measured problem m).node ≡ Ok m
unfolding model_of
model-read problem m few b =
    let n = (model_measured problem m).node in
    let count = length problem.criteria in
    let boundaries = boundaries_of problem in
    ap (λ (r : Result (Unit {0}) ModelFault). r >>= λ _. with_accepted problem n (sized count (items_under (codes "accepted_values") n))) (header-read problem m)
    ∙ ap (with_accepted problem n) (ap (sized count) (accepted-found problem m) ∙ sized-by count (accepted_nodes problem m) (length-accepted problem.criteria m.profiles b.criteria))
    ∙ ap (with_thresholds problem n) (all-accepted-read boundaries [] problem.criteria m.profiles b.thresholds b.grades b.ordered)
    ∙ ap (with_coalitions problem m.profiles) (ap (sized boundaries) (coalitions-found problem m) ∙ sized-by boundaries (coalition_nodes problem m) (length-map (map (coalition_measured count) m.coalitions) (λ x. x.node) ∙ length-map m.coalitions (coalition_measured count) ∙ b.boundaries))
    ∙ ap (with_roots m.profiles) (coalitions-read count [] m.coalitions few b.coalitions)
