-- The text of a problem: its outline, whose lines are written.
use Rattle.std.specs.Prelude.{◌≡◌, ◌≤◌, ◌^◌, All, Ok, Bool, true, false, ℕ, unsigned_abs, List, [], ◌∷◌, length, map}
use Rattle.std.specs.Prelude.{codes}
use Rattle.std.specs.List.{IsDistinct}
use Rattle.std.specs.Str.{bytes_eq, IsUtf8}
use Rattle.fixed_core.specs.Spelling.{spelling}
use Rattle.yaml_core.specs.declared.node.Node.{Node}
use Rattle.yaml_core.specs.Read.{reading}
use Rattle.yaml_core.specs.Size.{node_count}
use Rattle.written_core.specs.Document.{Text, Flow, document_text}
use Rattle.written_core.specs.Outline.{Outline, Leaf, End, Under, Dashed, word, quoted, outline_lines}
use Rattle.problem_core.specs.Problem.{ProblemValue}
use Rattle.problem_core.specs.ReadProblem.{problem_of}
use Rattle.problem_core.specs.declared.criterion.Bounds.{Bounds}
use Rattle.problem_core.specs.declared.criterion.Criterion.{Criterion}
use Rattle.problem_core.specs.declared.criterion.Scale.{Scale}
use Rattle.problem_core.specs.declared.criterion.Scale.TheVariants.{Rising, Falling, Named}

-- ---- scales

-- the type of a scale of numbers
abbrev pub type_word : Bool → List ℕ
type_word true = codes "integer"
type_word false = codes "real"

-- a scale of numbers: its type, its direction, its bounds by their one spelling
abbrev pub numbers_outline : List ℕ → Bounds → Outline
numbers_outline direction bounds =
    Under (codes "value_type") (word (type_word bounds.whole)) (Under (codes "preference_direction") (word direction)
    (Under (codes "min_value") (word (spelling bounds.least))
    (Under (codes "max_value") (word (spelling bounds.most)) End)))

-- a scale of names: the names in double quotes, from the worst to the best
abbrev pub names_outline : List (List ℕ) → Outline
names_outline names =
    Under (codes "value_type") (word (codes "enumerated"))
    (Under (codes "ordered_values") (Leaf (Flow (map Text names))) End)

abbrev pub scale_outline : Scale → Outline
scale_outline (Rising bounds) = numbers_outline (codes "increasing") bounds
scale_outline (Falling bounds) = numbers_outline (codes "decreasing") bounds
scale_outline (Named names) = names_outline names

-- ---- criteria and categories

abbrev pub criterion_outline : Criterion → Outline
criterion_outline criterion = Under (codes "name") (quoted criterion.name) (scale_outline criterion.scale)

-- an item for each criterion
abbrev pub criteria_outline : List Criterion → Outline
criteria_outline [] = End
criteria_outline (criterion ∷ criteria) = Dashed (criterion_outline criterion) (criteria_outline criteria)

abbrev pub category_outline : List ℕ → Outline
category_outline name = Under (codes "name") (quoted name) End

-- an item for each category
abbrev pub categories_outline : List (List ℕ) → Outline
categories_outline [] = End
categories_outline (name ∷ names) = Dashed (category_outline name) (categories_outline names)

-- ---- the problem

abbrev pub problem_outline : ProblemValue → Outline
problem_outline problem =
    Under (codes "kind") (word (codes "classification-problem")) (Under (codes "format_version") (word (codes "1"))
    (Under (codes "criteria") (criteria_outline problem.criteria)
    (Under (codes "ordered_categories") (categories_outline problem.categories) End)))

abbrev pub problem_text : ProblemValue → List ℕ
problem_text problem = document_text (outline_lines 0 (problem_outline problem))

-- ---- read again

-- names as their type keeps them: they are UTF-8 and differ from each other
abbrev pub AreNames : List (List ℕ) → Type 0
AreNames names = IsDistinct bytes_eq names × All IsUtf8 names

-- bounds as their type keeps them: of absolute value at most 10^18
abbrev pub AreNumbers : Bounds → Type 0
AreNumbers bounds = (unsigned_abs bounds.least ≤ 10 ^ 36) × (unsigned_abs bounds.most ≤ 10 ^ 36)

abbrev pub IsKeptScale : Scale → Type 0
IsKeptScale (Rising bounds) = AreNumbers bounds
IsKeptScale (Falling bounds) = AreNumbers bounds
IsKeptScale (Named names) = AreNames names

abbrev pub IsKeptCriterion : Criterion → Type 0
IsKeptCriterion criterion = IsUtf8 criterion.name × IsKeptScale criterion.scale

-- what the types of a problem's parts keep
pub record IsKept (problem : ProblemValue) : Type 0 where
  pub criteria : All IsKeptCriterion problem.criteria
  pub categories : AreNames problem.categories

-- The text of the problem has at most 64 MiB. Its bytes read as a tree, which has at most 16,777,216 nodes, and that
-- tree is the problem.
pub record ReadsBack (problem : ProblemValue) : Type 0 where
  pub short : length (problem_text problem) ≤ 67108864
  pub tree : Node
  pub few : node_count tree ≤ 16777216
  pub of_bytes : reading (problem_text problem) ≡ Ok tree
  pub of_tree : problem_of tree ≡ Ok problem
