-- Worked draws.
use Rattle.std.proofs.Common.{◌≡◌, ◌+◌, ◌*◌, ◌%◌, ◌^◌, pos, ◌∷◌, [], true, refl}
use Rattle.std.specs.Prelude.{codes, Some}
use Rattle.std.specs.Fmt.{digits}
use Rattle.problem_core.specs.Problem.{ProblemValue}
use Rattle.problem_core.specs.declared.criterion.Scale.TheVariants.{Rising, Falling, Named}
use Rattle.sorting_rule.specs.Coalition.{roots}
use Rattle.sorting_rule.specs.Model as rule
use Rattle.sorting_rule.specs.Preference.{rising}
use Rattle.model_core.specs.Model.{ModelValue, rule_of}
use Rattle.model_core.specs.declared.model.Coalitions.TheVariants.{Weights}
use Rattle.encoding_rules.specs.Each.{listed}
use Rattle.draw_core.specs.Choice.{chosen}
use Rattle.draw_core.specs.DrawnModel.{drawn_model, model_words, rising_values, weight_units}
use Rattle.draw_core.specs.DrawnProblem.{drawn_problem, zero_to_hundred, zero_to_one}
use Rattle.draw_core.specs.DrawnTable.{drawn_examples, fields_of, row_grades}
use Rattle.draw_core.specs.Words.{after, seeded, words_of}

-- ---- steps

-- a quarter of the way up a rising scale, and down a falling one
quarter-rises : chosen (Rising zero_to_one) 250 ≡ pos (25 * 10 ^ 16)
quarter-rises = refl

quarter-falls : chosen (Falling zero_to_one) 250 ≡ pos (75 * 10 ^ 16)
quarter-falls = refl

-- 5.55 is rounded down to a whole number
whole-is_rounded : chosen (Rising (record { least = pos 0; most = pos (10 * 10 ^ 18); whole = true })) 555 ≡ pos (5 * 10 ^ 18)
whole-is_rounded = refl

-- both ends are choices
least-is_chosen : chosen (Rising zero_to_hundred) 0 ≡ pos 0
least-is_chosen = refl

most-is_chosen : chosen (Rising zero_to_hundred) 1000 ≡ pos (100 * 10 ^ 18)
most-is_chosen = refl

-- a third is rounded up
third-is_rounded : weight_units 1 3 ≡ 333333333333333334
third-is_rounded = refl

-- equal numbers stay
in_order : rising_values (λ k. 7 * (k + 1) % 5) 5 ≡ 0 ∷ 1 ∷ 2 ∷ 3 ∷ 4 ∷ []
in_order = refl

-- ---- a problem, a model for it, and rows

problem : ProblemValue
problem = drawn_problem 3 2 (words_of (seeded 1) 3)

-- the problem of seed 1: a falling scale, a rising one and one of names
problem-of_1 : drawn_problem 3 2 (words_of (seeded 1) 3) ≡ record {
  criteria = record { name = codes "Criterion 1"; scale = Falling zero_to_one }
      ∷ record { name = codes "Criterion 2"; scale = Rising zero_to_one }
      ∷ record { name = codes "Criterion 3"; scale = Named (codes "v0" ∷ codes "v1" ∷ codes "v2" ∷ codes "v3" ∷ codes "v4" ∷ []) } ∷ [];
  categories = codes "Category 1" ∷ codes "Category 2" ∷ [];
}
unfolding drawn_problem after digits
problem-of_1 = refl

-- thresholds 0.054, 0.744 and v0, and three weights
model : ModelValue
model = record {
  profiles = record { thresholds = Some (pos 54000000000000000) ∷ [] } ∷ record { thresholds = Some (pos 744000000000000000) ∷ [] } ∷ record { thresholds = Some (pos 0) ∷ [] } ∷ [];
  coalitions = Weights (pos 662751677852348994 ∷ pos 1362416107382550336 ∷ pos 1208053691275167786 ∷ []) ∷ [];
}

-- the model of seed 2 for this problem
model-of_2 : drawn_model problem (words_of (seeded 2) (model_words problem)) ≡ model
unfolding problem model drawn_problem drawn_model after digits
model-of_2 = refl

-- two rows of seed 3 for both
rows-of_3 : drawn_examples problem (rule_of problem model) 2 (words_of (seeded 3) 6)
    ≡ record { grades = pos 138000000000000000 ∷ pos 455000000000000000 ∷ pos 1 ∷ []; category = 1 }
    ∷ record { grades = pos 480000000000000000 ∷ pos 940000000000000000 ∷ pos 4 ∷ []; category = 1 } ∷ []
unfolding problem model drawn_problem drawn_examples after digits
rows-of_3 = refl

-- ---- a scale of one number

five : ProblemValue
five = record {
  criteria = record { name = codes "Speed"; scale = Rising (record { least = pos (5 * 10 ^ 18); most = pos (5 * 10 ^ 18); whole = true }) } ∷ [];
  categories = codes "Bad" ∷ codes "Good" ∷ [];
}

at_least_five : rule.Model
at_least_five = record { profiles = record { direction = rising; thresholds = Some (pos (5 * 10 ^ 18)) ∷ [] } ∷ []; coalitions = roots (1 ∷ []) ∷ [] }

-- each row has it
rows-of_9 : listed (λ row. fields_of five at_least_five row (row_grades five (words_of (seeded 9) 2) row)) 2
    ≡ (codes "Alternative 1" ∷ codes "5" ∷ codes "Good" ∷ []) ∷ (codes "Alternative 2" ∷ codes "5" ∷ codes "Good" ∷ []) ∷ []
unfolding five at_least_five after digits
rows-of_9 = refl
