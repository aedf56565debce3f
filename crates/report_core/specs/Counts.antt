-- How many rows are classified, and how many are of each category.
use Rattle.std.specs.Prelude.{◌≡◌, ◌+◌, ◌<◌, ◌≤◌, ◌==◌, ℕ, Bool, true, false, List, length, Option, None, Some}
use Rattle.std.specs.Prelude.{count_by, slice_index_or, if◌then◌else◌}
use Rattle.table_core.specs.declared.row.Row.{Row}
use Rattle.report_core.specs.declared.counts.Counts.{Counts}

-- whether a row has a category, and whether it has this one
abbrev pub is_classified : Option ℕ → Bool
is_classified None = false
is_classified (Some category) = true

abbrev pub is_category : ℕ → Option ℕ → Bool
is_category place None = false
is_category place (Some category) = category == place

-- how many rows have a category, and how many have the one at a place
abbrev pub classified_count : List Row → ℕ
classified_count rows = count_by (λ row. is_classified row.category) rows

abbrev pub category_count : List Row → ℕ → ℕ
category_count rows place = count_by (λ row. is_category place row.category) rows

-- one for a row that passes a test
abbrev pub one_if : Bool → ℕ
one_if test = if test then 1 else 0

-- one row of this category, if it has one, was counted
pub record CountsRow (category : Option ℕ) (old new : Counts) : Type 0 where
  pub all : new.classified ≡ old.classified + one_if (is_classified category)
  pub size : length new.categories.items ≡ length old.categories.items
  pub each : (place : ℕ) → place < length old.categories.items
      → slice_index_or new.categories.items place 0
      ≡ slice_index_or old.categories.items place 0 + one_if (is_category place category)

-- of all these rows some are left, and the others were counted
pub record AreCounted (rows left : List Row) (counts : Counts) : Type 0 where
  pub all : counts.classified + classified_count left ≡ classified_count rows
  pub each : (place : ℕ) → place < length counts.categories.items
      → slice_index_or counts.categories.items place 0 + category_count left place ≡ category_count rows place

-- no count is above this
pub record AreAtMost (most : ℕ) (counts : Counts) : Type 0 where
  pub all : counts.classified ≤ most
  pub each : (place : ℕ) → place < length counts.categories.items
      → slice_index_or counts.categories.items place 0 ≤ most
