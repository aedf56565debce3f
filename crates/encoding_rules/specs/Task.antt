-- A learning task (Belahcène and others 2018). A good example reaches the boundary of its category; a bad one fails the
-- boundary above its category. An example of a category in between is both.
use Rattle.std.specs.Prelude.{ℕ, ◌+◌, ◌-◌, ◌<◌, ◌≡◌, nat_le, nat_lt, List, [], length, All, filter, slice_index_or}
use Rattle.sorting_rule.specs.Preference.{Direction, rising}
use Rattle.sorting_rule.specs.Examples.{Example}

-- examples, for criteria of these directions and so many categories
pub record Task : Type 0 where
  pub directions : List Direction
  pub categories : ℕ
  pub examples : List Example

-- each example has a grade for each criterion, and one of the categories
pub record IsTask (task : Task) : Type 0 where
  pub grades : All (λ e. length e.grades ≡ length task.directions) task.examples
  pub categories : All (λ e. e.category < task.categories) task.examples

-- the number of criteria
unfoldable pub criteria : Task → ℕ
criteria task = length task.directions

-- the number of boundaries between categories
unfoldable pub boundaries : Task → ℕ
boundaries task = task.categories - 1

unfoldable pub direction_at : Task → ℕ → Direction
direction_at task i = slice_index_or task.directions i rising

-- the good examples: those of category 1 or more
unfoldable pub goods : Task → List Example
goods task = filter (λ e. nat_le 1 e.category) task.examples

-- the bad examples: those of a category below the best
unfoldable pub bads : Task → List Example
bads task = filter (λ e. nat_lt (e.category + 1) task.categories) task.examples

abbrev pub nobody : Example
nobody = record { grades = []; category = 0 }

unfoldable pub good_at : Task → ℕ → Example
good_at task a = slice_index_or (goods task) a nobody

unfoldable pub bad_at : Task → ℕ → Example
bad_at task b = slice_index_or (bads task) b nobody
