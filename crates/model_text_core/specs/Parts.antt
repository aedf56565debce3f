-- The text of a model part by part, as code appends it.
use Rattle.std.specs.Prelude.{ℕ, ℤ, ◌%◌, ◌==◌, Option, List, [], ◌∷◌, ◌++◌, length, map, codes, decimal, if◌then◌else◌}
use Rattle.std.specs.List.{list_all, flat_map}
use Rattle.problem_core.specs.Problem.{ProblemValue}
use Rattle.problem_core.specs.declared.criterion.Criterion.{Criterion}
use Rattle.problem_core.specs.declared.criterion.Scale.{Scale}
use Rattle.written_core.specs.Document.{flow_text}
use Rattle.written_core.specs.Parts.{row, comma}
use Rattle.model_core.specs.Model.{ModelValue}
use Rattle.model_core.specs.declared.model.Coalitions.{Coalitions}
use Rattle.model_core.specs.declared.model.Coalitions.TheVariants.{Weights, Roots}
use Rattle.model_core.specs.declared.model.Profile.{Profile}
use Rattle.model_text_core.specs.ModelText.{threshold_scalar, root_scalars, weight_scalar, are_same}

-- a place behind so many others, if the least bit of the rest of a mask is set
abbrev pub place_text : ℕ → ℕ → ℕ → List ℕ
place_text written place rest = if rest % 2 == 1 then comma written ++ decimal place else []

abbrev pub thresholds_text : Scale → List (Option ℤ) → List ℕ
thresholds_text scale ts =
    row (codes "  - kind: thresholds")
    (codes "    thresholds: " ++ row (flow_text (map (threshold_scalar scale) ts)) [])

-- the rows of each criterion
abbrev pub accepted_text : List Criterion → List Profile → List ℕ
accepted_text [] rows = []
accepted_text (criterion ∷ criteria) [] = []
accepted_text (criterion ∷ criteria) (p ∷ rows) =
    thresholds_text criterion.scale p.thresholds ++ accepted_text criteria rows

abbrev pub root_text : ℕ → ℕ → List ℕ
root_text count root = codes "      - " ++ row (flow_text (root_scalars count root)) []

abbrev pub roots_text : ℕ → List ℕ → List ℕ
roots_text count roots = flat_map (root_text count) roots

-- the key line of the roots, and the roots
abbrev pub upset_text : ℕ → List ℕ → List ℕ
upset_text count [] = row (codes "    upset_roots: []") []
upset_text count (root ∷ roots) = row (codes "    upset_roots:") (roots_text count (root ∷ roots))

-- the rows of coalitions, from their kind on
abbrev pub by_weights_text : List ℤ → List ℕ
by_weights_text ws =
    row (codes "kind: weights") (codes "    criterion_weights: " ++ row (flow_text (map weight_scalar ws)) [])

abbrev pub by_roots_text : ℕ → List ℕ → List ℕ
by_roots_text count rs = row (codes "kind: roots") (upset_text count rs)

abbrev pub coalition_text : ℕ → Coalitions → List ℕ
coalition_text count (Weights ws) = by_weights_text ws
coalition_text count (Roots rs) = by_roots_text count rs

-- the rows of a boundary, in full, and those of each boundary
abbrev pub item_text : ℕ → Coalitions → List ℕ
item_text count c = codes "  - " ++ coalition_text count c

abbrev pub each_text : ℕ → List Coalitions → List ℕ
each_text count rows = flat_map (item_text count) rows

-- an alias for each boundary
abbrev pub alias_text : Coalitions → List ℕ
alias_text c = row (codes "  - *coalitions") []

abbrev pub same_text : List Coalitions → List ℕ
same_text rows = flat_map alias_text rows

-- the first in full behind an anchor, and aliases of it
abbrev pub anchored_text : ℕ → Coalitions → List Coalitions → List ℕ
anchored_text count c rows = row (codes "  - &coalitions") (codes "    " ++ (coalition_text count c ++ same_text rows))

abbrev pub coalitions_text : ℕ → List Coalitions → List ℕ
coalitions_text count [] = []
coalitions_text count (c ∷ rows) =
    if list_all (are_same c) rows then anchored_text count c rows else each_text count (c ∷ rows)

abbrev pub head_text : List ℕ
head_text =
    row (codes "kind: ncs-classification-model") (row (codes "format_version: 1") (row (codes "accepted_values:") []))

-- the whole text, of a model with a criterion and a boundary
abbrev pub text_by_parts : ProblemValue → ModelValue → List ℕ
text_by_parts problem m =
    head_text ++ (accepted_text problem.criteria m.profiles
    ++ (row (codes "sufficient_coalitions:") [] ++ coalitions_text (length problem.criteria) m.coalitions))
