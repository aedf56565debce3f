-- The description of a model.
use Rattle.std.specs.Prelude.{ℕ, ◌+◌, ℤ, List, [], ◌∷◌, ◌++◌, length, map, codes, Option, None, Some}
use Rattle.model_core.specs.Model.{ModelValue, boundaries_of}
use Rattle.model_core.specs.declared.model.Coalitions.{Coalitions}
use Rattle.model_core.specs.declared.model.Coalitions.TheVariants.{Weights, Roots}
use Rattle.model_core.specs.declared.model.Profile.{Profile}
use Rattle.model_text_core.specs.ModelText.{root_scalars, weight_scalar}
use Rattle.problem_core.specs.Grade.{quoted_grade_text}
use Rattle.problem_core.specs.Problem.{ProblemValue}
use Rattle.problem_core.specs.declared.criterion.Criterion.{Criterion}
use Rattle.problem_core.specs.declared.criterion.Scale.{Scale}
use Rattle.problem_core.specs.declared.criterion.Scale.TheVariants.{Rising, Falling, Named}
use Rattle.written_core.specs.Document.{flow_text}
use Rattle.report_core.specs.Text.{counted, line_end, listed, numbered}

-- a threshold is the least accepted grade, or on a falling scale the greatest
abbrev pub bound_word : Scale → List ℕ
bound_word (Rising bounds) = codes "at least "
bound_word (Falling bounds) = codes "at most "
bound_word (Named names) = codes "at least "

abbrev pub bound_text : Scale → ℤ → List ℕ
bound_text scale grade = bound_word scale ++ quoted_grade_text scale grade

-- which grades a threshold accepts: none if it is null
abbrev pub threshold_text : Scale → Option ℤ → List ℕ
threshold_text scale None = codes "nothing"
threshold_text scale (Some grade) = bound_text scale grade

-- criterion I at boundary H
abbrev pub threshold_line : ℕ → Scale → ℕ → Option ℤ → List ℕ
threshold_line i scale h threshold =
    counted (codes "criterion ") i (codes " boundary ")
    ++ (counted [] h (codes ": ") ++ (threshold_text scale threshold ++ line_end))

-- the same at a place of the boundaries, at which boundary 1 is the first
abbrev pub threshold_line_at : ℕ → Scale → ℕ → Option ℤ → List ℕ
threshold_line_at i scale place threshold = threshold_line i scale (place + 1) threshold

-- the thresholds of each criterion, the first of them at this place, from boundary 1 on
abbrev pub accepted_lines : ℕ → List Criterion → List Profile → List ℕ
accepted_lines i [] profiles = []
accepted_lines i (criterion ∷ criteria) [] = []
accepted_lines i (criterion ∷ criteria) (profile ∷ profiles) =
    numbered (threshold_line_at i criterion.scale) 0 profile.thresholds ++ accepted_lines (i + 1) criteria profiles

-- weights, and a root, as in a model's text
abbrev pub weights_text : List ℤ → List ℕ
weights_text weights = codes "weights " ++ flow_text (map weight_scalar weights)

abbrev pub places_text : ℕ → ℕ → List ℕ
places_text criteria root = flow_text (root_scalars criteria root)

abbrev pub roots_text : ℕ → List ℕ → List ℕ
roots_text criteria roots = codes "roots " ++ listed (map (places_text criteria) roots)

abbrev pub coalitions_text : ℕ → Coalitions → List ℕ
coalitions_text criteria (Weights weights) = weights_text weights
coalitions_text criteria (Roots roots) = roots_text criteria roots

abbrev pub boundary_line : ℕ → ℕ → Coalitions → List ℕ
boundary_line criteria h coalitions =
    counted (codes "boundary ") h (codes ": ") ++ (coalitions_text criteria coalitions ++ line_end)

abbrev pub boundary_line_at : ℕ → ℕ → Coalitions → List ℕ
boundary_line_at criteria place coalitions = boundary_line criteria (place + 1) coalitions

-- how many criteria and boundaries, the thresholds of each criterion, and the coalitions of each boundary
abbrev pub model_description : ProblemValue → ModelValue → List ℕ
model_description problem model =
    counted (codes "model: ") (length problem.criteria) (codes " criteria, ")
    ++ (counted [] (boundaries_of problem) (codes " boundaries" ++ line_end)
    ++ (accepted_lines 0 problem.criteria model.profiles
    ++ numbered (boundary_line_at (length problem.criteria)) 0 model.coalitions))
