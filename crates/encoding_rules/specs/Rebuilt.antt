-- The model that values of the unknowns give, and the form that it has.
use Rattle.std.specs.Prelude.{ℕ, ◌+◌, ℤ, Bool, Option, None, Some, List, [], ◌∷◌, replicate, if◌then◌else◌}
use Rattle.sorting_rule.specs.Coalition.{roots}
use Rattle.sorting_rule.specs.Model.{Profile, Model}
use Rattle.encoding_rules.specs.Each.{listed}
use Rattle.encoding_rules.specs.Task.{Task, criteria, boundaries, direction_at}
use Rattle.encoding_rules.specs.Ranks.{ranked}
use Rattle.encoding_rules.specs.Unknowns.{accepted}

-- the first of some grades, numbered from a place on, whose number passes
abbrev pub first_passing : (ℕ → Bool) → ℕ → List ℤ → Option ℤ
first_passing passes k [] = None
first_passing passes k (x ∷ xs) = if passes k then Some x else first_passing passes (k + 1) xs

-- the threshold of a criterion at the boundary at place b: its least grade that the values accept there, or null
abbrev pub rebuilt_threshold : Task → (ℕ → Bool) → ℕ → ℕ → Option ℤ
rebuilt_threshold task values i b = first_passing (λ k. values (accepted task i b k)) 0 (ranked task i)

abbrev pub rebuilt_profile : Task → (ℕ → Bool) → ℕ → Profile
rebuilt_profile task values i =
    record { direction = direction_at task i; thresholds = listed (rebuilt_threshold task values i) (boundaries task) }

unfoldable pub rebuilt_profiles : Task → (ℕ → Bool) → List Profile
rebuilt_profiles task values = listed (rebuilt_profile task values) (criteria task)

-- the model of the values, with these roots at each boundary
abbrev pub rebuilt : Task → (ℕ → Bool) → List ℕ → Model
rebuilt task values rs =
    record { profiles = rebuilt_profiles task values; coalitions = replicate (boundaries task) (roots rs) }
