-- The text of models at worked examples.
use Rattle.std.proofs.Common.{◌≡◌, ℕ, ◌*◌, ◌^◌, true, List, [], ◌∷◌, ◌++◌, codes, refl, pos, Some, None}
use Prim.Native.String.{String}
use Rattle.std.specs.Fmt.{digits}
use Rattle.fixed_core.specs.Spelling.{short_digits}
use Rattle.problem_core.specs.declared.criterion.Criterion.{Criterion}
use Rattle.problem_core.specs.declared.criterion.Scale.TheVariants.{Rising, Named}
use Rattle.model_core.specs.declared.model.Coalitions.TheVariants.{Weights, Roots}
use Rattle.model_text_core.specs.ModelText.{model_text}

abbrev line : String → List ℕ
line s = codes s ++ 10 ∷ []

abbrev speed : Criterion
speed = record { name = codes "Speed"; scale = Rising (record { least = pos 0; most = pos (10 * 10 ^ 18); whole = true }) }

abbrev comfort : Criterion
comfort = record { name = codes "Comfort"; scale = Named (codes "low" ∷ codes "high" ∷ []) }

abbrev head : List ℕ
head = line "kind: ncs-classification-model" ++ line "format_version: 1" ++ line "accepted_values:"

-- one criterion from 0 to 10, two categories, the threshold 7, and the root that is the criterion alone
one_boundary : model_text (record { criteria = speed ∷ []; categories = codes "Bad" ∷ codes "Good" ∷ [] })
    (record { profiles = record { thresholds = Some (pos (7 * 10 ^ 18)) ∷ [] } ∷ []; coalitions = Roots (1 ∷ []) ∷ [] }) ≡
    head ++ line "  - kind: thresholds" ++ line "    thresholds: [7]" ++ line "sufficient_coalitions:"
    ++ line "  - &coalitions" ++ line "    kind: roots" ++ line "    upset_roots:" ++ line "      - [0]"
unfolding digits short_digits
one_boundary = refl

-- two criteria, three categories, null thresholds, a named threshold, and the same weights at both boundaries
same_weights : model_text (record { criteria = speed ∷ comfort ∷ []; categories = codes "Bad" ∷ codes "Fair" ∷ codes "Good" ∷ [] })
    (record {
      profiles = record { thresholds = Some (pos (7 * 10 ^ 18)) ∷ None ∷ [] } ∷ record { thresholds = Some (pos 1) ∷ None ∷ [] } ∷ [];
      coalitions = Weights (pos (5 * 10 ^ 17) ∷ pos (10 ^ 18) ∷ []) ∷ Weights (pos (5 * 10 ^ 17) ∷ pos (10 ^ 18) ∷ []) ∷ [];
    }) ≡
    head ++ line "  - kind: thresholds" ++ line "    thresholds: [7, null]" ++ line "  - kind: thresholds" ++ codes "    thresholds: [" ++ 34 ∷ codes "high" ++ 34 ∷ line ", null]" ++ line "sufficient_coalitions:"
    ++ line "  - &coalitions" ++ line "    kind: weights" ++ line "    criterion_weights: [0.5, 1]" ++ line "  - *coalitions"
unfolding digits short_digits
same_weights = refl

-- two criteria, three categories, weights at the first boundary and roots at the second
two_kinds : model_text (record { criteria = speed ∷ comfort ∷ []; categories = codes "Bad" ∷ codes "Fair" ∷ codes "Good" ∷ [] })
    (record {
      profiles = record { thresholds = Some (pos (7 * 10 ^ 18)) ∷ None ∷ [] } ∷ record { thresholds = None ∷ None ∷ [] } ∷ [];
      coalitions = Weights (pos (5 * 10 ^ 17) ∷ pos (10 ^ 18) ∷ []) ∷ Roots (3 ∷ []) ∷ [];
    }) ≡
    head ++ line "  - kind: thresholds" ++ line "    thresholds: [7, null]" ++ line "  - kind: thresholds" ++ line "    thresholds: [null, null]" ++ line "sufficient_coalitions:"
    ++ line "  - kind: weights" ++ line "    criterion_weights: [0.5, 1]" ++ line "  - kind: roots" ++ line "    upset_roots:" ++ line "      - [0, 1]"
unfolding digits short_digits
two_kinds = refl
