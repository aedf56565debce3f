-- The text of a model: its outline, whose lines are written.
use Rattle.std.specs.Prelude.{◌≡◌, ◌≤◌, All, Option, None, Some, Ok, Bool, true, false, ◌&&◌, ℕ, zero, suc, ◌+◌, ◌/◌}
use Rattle.std.specs.Prelude.{◌%◌, ◌==◌, ℤ, pos, negsuc, unsigned_abs, decimal, if◌then◌else◌, List, [], ◌∷◌, length}
use Rattle.std.specs.Prelude.{map, codes}
use Rattle.std.specs.List.{list_all}
use Rattle.std.specs.Str.{bytes_eq, IsUtf8}
use Rattle.yaml_core.specs.declared.node.Node.{Node}
use Rattle.yaml_core.specs.Read.{reading}
use Rattle.yaml_core.specs.Size.{node_count}
use Rattle.yaml_core.specs.Tree.{text_tree}
use Rattle.model_core.specs.ReadModel.{model_of}
use Rattle.fixed_core.specs.Spelling.{spelling}
use Rattle.problem_core.specs.Grade.{name_in}
use Rattle.problem_core.specs.Problem.{ProblemValue}
use Rattle.problem_core.specs.declared.criterion.Criterion.{Criterion}
use Rattle.problem_core.specs.declared.criterion.Scale.{Scale}
use Rattle.problem_core.specs.declared.criterion.Scale.TheVariants.{Rising, Falling, Named}
use Rattle.written_core.specs.Document.{Scalar, Word, Text, Flow, Same, document_text}
use Rattle.written_core.specs.Outline.{Outline, Leaf, End, Under, Dashed, Anchored, word, listed, outline_lines}
use Rattle.model_core.specs.declared.model.Coalitions.{Coalitions}
use Rattle.model_core.specs.declared.model.Coalitions.TheVariants.{Weights, Roots}
use Rattle.model_core.specs.declared.model.Profile.{Profile}
use Rattle.model_core.specs.Model.{ModelValue}

-- ---- thresholds

-- a grade as it is written: a number's one spelling, or a name in double quotes
abbrev pub grade_scalar : Scale → ℤ → Scalar
grade_scalar (Rising bounds) grade = Word (spelling grade)
grade_scalar (Falling bounds) grade = Word (spelling grade)
grade_scalar (Named names) grade = Text (name_in names (unsigned_abs grade))

-- a threshold: null, or a grade
abbrev pub threshold_scalar : Scale → Option ℤ → Scalar
threshold_scalar scale None = Word (codes "null")
threshold_scalar scale (Some grade) = grade_scalar scale grade

abbrev pub thresholds_outline : Scale → List (Option ℤ) → Outline
thresholds_outline scale ts =
    Under (codes "kind") (word (codes "thresholds"))
    (Under (codes "thresholds") (Leaf (Flow (map (threshold_scalar scale) ts))) End)

-- an item for each criterion with its thresholds
abbrev pub accepted_outline : List Criterion → List Profile → Outline
accepted_outline [] rows = End
accepted_outline (criterion ∷ criteria) [] = End
accepted_outline (criterion ∷ criteria) (row ∷ rows) =
    Dashed (thresholds_outline criterion.scale row.thresholds) (accepted_outline criteria rows)

-- ---- roots

-- the places of the criteria in a set, rising: of so many criteria, the first of them at a place
abbrev pub places_in : ℕ → ℕ → ℕ → List ℕ
places_in zero place set = []
places_in (suc n) place set =
    if set % 2 == 1 then place ∷ places_in n (place + 1) (set / 2) else places_in n (place + 1) (set / 2)

abbrev pub place_word : ℕ → Scalar
place_word place = Word (decimal place)

abbrev pub root_scalars : ℕ → ℕ → List Scalar
root_scalars count root = map place_word (places_in count 0 root)

abbrev pub roots_outline : ℕ → List ℕ → Outline
roots_outline count [] = End
roots_outline count (root ∷ roots) = Dashed (Leaf (Flow (root_scalars count root))) (roots_outline count roots)

-- ---- coalitions

abbrev pub weight_scalar : ℤ → Scalar
weight_scalar w = Word (spelling w)

abbrev pub coalition_outline : ℕ → Coalitions → Outline
coalition_outline count (Weights ws) =
    Under (codes "kind") (word (codes "weights"))
    (Under (codes "criterion_weights") (Leaf (Flow (map weight_scalar ws))) End)
coalition_outline count (Roots roots) =
    Under (codes "kind") (word (codes "roots"))
    (Under (codes "upset_roots") (listed (roots_outline count roots)) End)

-- an item for each boundary with its coalitions
abbrev pub each_outline : ℕ → List Coalitions → Outline
each_outline count [] = End
each_outline count (roots ∷ rows) = Dashed (coalition_outline count roots) (each_outline count rows)

-- an alias for each boundary
abbrev pub same_outline : List Coalitions → Outline
same_outline [] = End
same_outline (roots ∷ rows) = Dashed (Leaf (Same (codes "coalitions"))) (same_outline rows)

-- whether coalitions are the same
abbrev pub is_same : ℤ → ℤ → Bool
is_same (pos a) (pos b) = a == b
is_same (pos a) (negsuc b) = false
is_same (negsuc a) (pos b) = false
is_same (negsuc a) (negsuc b) = a == b

abbrev pub all_same : List ℤ → List ℤ → Bool
all_same [] [] = true
all_same [] (w ∷ ws) = false
all_same (v ∷ vs) [] = false
all_same (v ∷ vs) (w ∷ ws) = is_same v w && all_same vs ws

abbrev pub are_same : Coalitions → Coalitions → Bool
are_same (Weights vs) (Weights ws) = all_same vs ws
are_same (Weights vs) (Roots rs) = false
are_same (Roots qs) (Weights ws) = false
are_same (Roots qs) (Roots rs) = bytes_eq qs rs

-- if all boundaries have the same coalitions, the first gets an anchor, and the others are aliases of it
abbrev pub coalitions_outline : ℕ → List Coalitions → Outline
coalitions_outline count [] = End
coalitions_outline count (roots ∷ rows) =
    if list_all (are_same roots) rows
    then Dashed (Anchored (codes "coalitions") (coalition_outline count roots)) (same_outline rows)
    else each_outline count (roots ∷ rows)

-- ---- the model

abbrev pub model_outline : ProblemValue → ModelValue → Outline
model_outline problem m =
    Under (codes "kind") (word (codes "ncs-classification-model")) (Under (codes "format_version") (word (codes "1"))
    (Under (codes "accepted_values") (listed (accepted_outline problem.criteria m.profiles))
    (Under (codes "sufficient_coalitions") (listed (coalitions_outline (length problem.criteria) m.coalitions)) End)))

abbrev pub model_text : ProblemValue → ModelValue → List ℕ
model_text problem m = document_text (outline_lines 0 (model_outline problem m))

-- ---- read again

-- the names of a scale are UTF-8
abbrev pub HasUtf8Names : Scale → Type 0
HasUtf8Names (Rising bounds) = Unit {0}
HasUtf8Names (Falling bounds) = Unit {0}
HasUtf8Names (Named names) = All IsUtf8 names

-- The text of the model has a tree, and for the problem that tree is the model. The bytes of the text read as that tree
-- if it has at most 16,777,216 nodes, with aliases written out.
pub record ReadsBack (problem : ProblemValue) (m : ModelValue) : Type 0 where
  pub tree : Node
  pub of_text : text_tree (model_text problem m) ≡ Some tree
  pub of_bytes : node_count tree ≤ 16777216 → reading (model_text problem m) ≡ Ok tree
  pub model : model_of problem tree ≡ Ok m

-- at most 65,536 roots: no more than the sets of 16 criteria
abbrev pub HasFewRoots : Coalitions → Type 0
HasFewRoots (Weights ws) = Unit {0}
HasFewRoots (Roots rs) = length rs ≤ 65536

-- the coalitions of each boundary have few roots
abbrev pub HaveFewRoots : ModelValue → Type 0
HaveFewRoots m = All HasFewRoots m.coalitions

-- The bytes of the text read as a tree, and for the problem that tree is the model.
pub record ReadsWhole (problem : ProblemValue) (m : ModelValue) : Type 0 where
  pub tree : Node
  pub of_bytes : reading (model_text problem m) ≡ Ok tree
  pub model : model_of problem tree ≡ Ok m
