-- The rows of unknowns that say what is accepted of examples, over given numbers.
use Rattle.std.specs.Prelude.{◌≡◌, ℕ, ◌+◌, ◌-◌, ◌*◌, ◌<◌, ◌≤◌, nat_le, nat_lt, List, [], ◌∷◌, length, slice_index_or}
use Rattle.std.specs.Prelude.{if◌then◌else◌}
use Rattle.sorting_rule.specs.Examples.{Example}
use Rattle.chain_core.specs.declared.literal.TheConstants.{GREATEST_VARIABLE}
use Rattle.encoding_rules.specs.Each.{listed}
use Rattle.table_core.specs.Examples.{example_at}

-- the unknown of an example's grade on criterion i at the boundary at place b
abbrev pub unknown_at : List ℕ → List ℕ → List (List ℕ) → ℕ → ℕ → ℕ → ℕ
unknown_at counts firsts places b row i =
    slice_index_or firsts i 0 + b * slice_index_or counts i 0 + slice_index_or (slice_index_or places i []) row 0

abbrev pub row_at : List ℕ → List ℕ → List (List ℕ) → ℕ → ℕ → List ℕ
row_at counts firsts places b row = listed (unknown_at counts firsts places b row) (length counts)

-- the row of a good example at its boundary, and of a bad one at the boundary above its category
abbrev pub good_rows_at : List ℕ → List ℕ → List (List ℕ) → List Example → ℕ → List (List ℕ)
good_rows_at counts firsts places examples row = let category = (example_at examples row).category in
    if nat_le 1 category then row_at counts firsts places (category - 1) row ∷ [] else []

abbrev pub bad_rows_at : List ℕ → List ℕ → List (List ℕ) → ℕ → List Example → ℕ → List (List ℕ)
bad_rows_at counts firsts places boundaries examples row = let category = (example_at examples row).category in
    if nat_lt category boundaries then row_at counts firsts places category row ∷ [] else []

-- the numbers fit each other
pub record RowsFit (counts firsts : List ℕ) (places : List (List ℕ)) (boundaries : ℕ) (examples : List Example) : Type 0
  where
    pub same : length firsts ≡ length counts
    pub few : length counts ≤ 16
    pub all : length counts ≤ length places
    pub rows : (i : ℕ) → i < length counts → length (slice_index_or places i []) ≡ length examples
    pub small : (i b row : ℕ) → i < length counts → b < boundaries → row < length examples
        → unknown_at counts firsts places b row i ≤ GREATEST_VARIABLE
    pub categories : (row : ℕ) → row < length examples → (example_at examples row).category ≤ boundaries
