-- What values of the unknowns say, over the ranks of the examples.
use Rattle.std.specs.Prelude.{ℕ, ◌+◌, ◌-◌, ◌*◌, ◌^◌, ◌<◌, ◌≤◌, nat_le, Bool, ℤ, Option, List, [], ◌∷◌, length, All}
use Rattle.std.specs.Prelude.{slice_index_or, if◌then◌else◌}
use Rattle.sorting_rule.specs.Coalition.{mask_of}
use Rattle.sorting_rule.specs.Examples.{Example}
use Rattle.encoding_rules.specs.Each.{listed, total}
use Rattle.encoding_rules.specs.Rebuilt.{first_passing}
use Rattle.ranks_core.specs.Ranks.{RanksValue}
use Rattle.table_core.specs.Examples.{example_at}
use Rattle.search_core.specs.Values.{value_at}
use Rattle.accepted_core.specs.Sizes.{count_in}

-- the first unknown of a criterion, for so many boundaries
abbrev pub first_in : ℕ → List (List ℤ) → ℕ → ℕ
first_in boundaries grades i = 1 + boundaries * total (count_in grades) i

-- a number that a first unknown can be
abbrev pub IsFirst : ℕ → Type 0
IsFirst first = (1 ≤ first) × (first ≤ 2 ^ 40)

-- the threshold of a criterion with this first unknown at the boundary at a place
abbrev pub threshold_in : List Bool → List (List ℤ) → ℕ → ℕ → ℕ → Option ℤ
threshold_in values grades first i b =
    first_passing (λ k. value_at values (first + b * count_in grades i + k)) 0 (slice_index_or grades i [])

-- the thresholds of a criterion, by the first unknowns of all criteria
abbrev pub thresholds_in : List Bool → List (List ℤ) → List ℕ → ℕ → ℕ → List (Option ℤ)
thresholds_in values grades firsts boundaries i =
    listed (threshold_in values grades (slice_index_or firsts i 0) i) boundaries

-- whether a criterion accepts the grade of the example in a row at the boundary at a place
abbrev pub flag_in : List Bool → List ℕ → RanksValue → ℕ → ℕ → ℕ → Bool
flag_in values firsts ranks place row i =
    value_at values (slice_index_or firsts i 0
    + place * count_in ranks.grades i
    + slice_index_or (slice_index_or ranks.places i []) row 0)

-- the set of the example in a row, if its category is 1 or more
abbrev pub own_in : List Bool → List ℕ → RanksValue → List Example → ℕ → List ℕ
own_in values firsts ranks examples row = let category = (example_at examples row).category in
    if nat_le 1 category
    then mask_of (listed (flag_in values firsts ranks (category - 1) row) (length firsts)) ∷ []
    else []

-- the ranks have these criteria, each with the row
pub record RowsFit (firsts : List ℕ) (ranks : RanksValue) (row : ℕ) : Type 0 where
  pub few : length firsts ≤ 16
  pub starts : All IsFirst firsts
  pub grades : length firsts ≤ length ranks.grades
  pub places : length firsts ≤ length ranks.places
  pub rows : (i : ℕ) → i < length firsts → row < length (slice_index_or ranks.places i [])
