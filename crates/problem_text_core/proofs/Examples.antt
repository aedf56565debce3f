-- The text of problems at worked examples.
use Rattle.std.proofs.Common.{◌≡◌, ℕ, ◌*◌, ◌^◌, true, false, List, [], ◌∷◌, ◌++◌, codes, refl, pos, negsuc}
use Prim.Native.String.{String}
use Rattle.std.specs.Fmt.{digits}
use Rattle.fixed_core.specs.Spelling.{short_digits}
use Rattle.problem_core.specs.declared.criterion.Criterion.{Criterion}
use Rattle.problem_core.specs.declared.criterion.Scale.TheVariants.{Rising, Falling, Named}
use Rattle.problem_text_core.specs.ProblemText.{problem_text}

abbrev line : String → List ℕ
line s = codes s ++ 10 ∷ []

abbrev head : List ℕ
head = line "kind: classification-problem" ++ line "format_version: 1" ++ line "criteria:"

abbrev speed : Criterion
speed = record { name = codes "Speed"; scale = Rising (record { least = pos 0; most = pos (10 * 10 ^ 18); whole = true }) }

abbrev mark : Criterion
mark = record { name = codes "Mark"; scale = Named (codes "c" ∷ codes "b" ∷ codes "a" ∷ []) }

-- a whole scale from 0 to 10, a scale of three names, and two categories
numbers_and_names : problem_text (record { criteria = speed ∷ mark ∷ []; categories = codes "Bad" ∷ codes "Good" ∷ [] }) ≡
    head ++ line "  - name: \"Speed\"" ++ line "    value_type: integer" ++ line "    preference_direction: increasing" ++ line "    min_value: 0" ++ line "    max_value: 10"
    ++ line "  - name: \"Mark\"" ++ line "    value_type: enumerated" ++ line "    ordered_values: [\"c\", \"b\", \"a\"]"
    ++ line "ordered_categories:" ++ line "  - name: \"Bad\"" ++ line "  - name: \"Good\""
unfolding digits short_digits
numbers_and_names = refl

abbrev price : Criterion
price = record { name = codes "Price"; scale = Falling (record { least = negsuc (5 * 10 ^ 17); most = pos 1; whole = false }) }

-- one falling scale, from just below -0.5 to the least number above 0, and names that hold a quote and a backslash
signs_and_quotes : problem_text (record { criteria = price ∷ []; categories = codes "\"" ∷ codes "\\" ∷ [] }) ≡
    head ++ line "  - name: \"Price\"" ++ line "    value_type: real" ++ line "    preference_direction: decreasing"
    ++ line "    min_value: -0.500000000000000001" ++ line "    max_value: 0.000000000000000001"
    ++ line "ordered_categories:" ++ line "  - name: \"\\\"\"" ++ line "  - name: \"\\\\\""
unfolding digits short_digits
signs_and_quotes = refl
