-- How many examples a model restores.
use Rattle.std.specs.Prelude.{ℕ, ◌==◌, List, count_by}
use Rattle.sorting_rule.specs.Examples.{Example}
use Rattle.sorting_rule.specs.Model.{Model, category}

-- the number of examples whose stated category is the one that the sorting rule gives
abbrev pub restored_count : Model → List Example → ℕ
restored_count model examples = count_by (λ e. category model e.grades == e.category) examples
