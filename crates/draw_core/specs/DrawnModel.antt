-- The model that words draw for a problem: words for the thresholds of each criterion, then one for each weight, then
-- one for the sum that is enough.
use Rattle.std.specs.Prelude.{ℕ, zero, suc, ◌+◌, ◌-◌, ◌*◌, ◌/◌, ◌^◌, if◌then◌else◌, nat_le, ℤ, pos, List, [], ◌∷◌}
use Rattle.std.specs.Prelude.{length, map, replicate, Some}
use Rattle.problem_core.specs.Problem.{ProblemValue}
use Rattle.model_core.specs.Model.{ModelValue, boundaries_of}
use Rattle.model_core.specs.declared.model.Coalitions.TheVariants.{Weights}
use Rattle.model_core.specs.declared.model.Profile.{Profile}
use Rattle.encoding_rules.specs.Each.{listed, total}
use Rattle.draw_core.specs.Choice.{choice_count, chosen, scale_at}
use Rattle.draw_core.specs.Words.{number_at}

-- a number among rising ones, at the first place where it is in order
abbrev pub put_in : ℕ → List ℕ → List ℕ
put_in x [] = x ∷ []
put_in x (y ∷ ys) = if nat_le x y then x ∷ y ∷ ys else y ∷ put_in x ys

-- the values at 0, 1 and so on below a number, in rising order
abbrev pub rising_values : (ℕ → ℕ) → ℕ → List ℕ
rising_values f zero = []
rising_values f (suc n) = put_in (f n) (rising_values f n)

-- the choice that is drawn for a criterion as number h of its thresholds, before they are put in order
abbrev pub drawn_choice : ProblemValue → List ℕ → ℕ → ℕ → ℕ
drawn_choice problem words i h =
    number_at words (i * boundaries_of problem + h) (choice_count (scale_at problem.criteria i))

-- the choices of a criterion in order
abbrev pub drawn_choices : ProblemValue → List ℕ → ℕ → List ℕ
drawn_choices problem words i = rising_values (drawn_choice problem words i) (boundaries_of problem)

-- a criterion with its thresholds
abbrev pub drawn_profile : ProblemValue → List ℕ → ℕ → Profile
drawn_profile problem words i =
    record { thresholds = map (λ c. Some (chosen (scale_at problem.criteria i) c)) (drawn_choices problem words i) }

-- the share of a criterion, from 1 to 1000
abbrev pub drawn_share : ProblemValue → List ℕ → ℕ → ℕ
drawn_share problem words i = 1 + number_at words (length problem.criteria * boundaries_of problem + i) 1000

-- the sum of shares that is enough, at most the sum of all
abbrev pub drawn_limit : ProblemValue → List ℕ → ℕ
drawn_limit problem words =
    let n = length problem.criteria in
    1 + number_at words (n * boundaries_of problem + n) (total (drawn_share problem words) n)

-- a share by the limit, rounded up to a whole number of units of 10^-18
abbrev pub weight_units : ℕ → ℕ → ℕ
weight_units share limit = (share * 10 ^ 18 + (limit - 1)) / limit

-- the weight of a criterion
abbrev pub drawn_weight : ProblemValue → List ℕ → ℕ → ℤ
drawn_weight problem words i = pos (weight_units (drawn_share problem words i) (drawn_limit problem words))

-- the weights of all criteria
abbrev pub drawn_weights : ProblemValue → List ℕ → List ℤ
drawn_weights problem words = listed (drawn_weight problem words) (length problem.criteria)

-- how many words a model takes
abbrev pub model_words : ProblemValue → ℕ
model_words problem = let n = length problem.criteria in n * boundaries_of problem + n + 1

-- the model, with the same weights at each boundary
unfoldable pub drawn_model : ProblemValue → List ℕ → ModelValue
drawn_model problem words = record {
  profiles = listed (drawn_profile problem words) (length problem.criteria);
  coalitions = replicate (boundaries_of problem) (Weights (drawn_weights problem words));
}
