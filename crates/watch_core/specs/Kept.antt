-- What a trail keeps in its tables.
use Rattle.std.specs.Prelude.{ℕ, ◌≡◌, ◌≢◌, ◌*◌, ◌==◌, ◌⊎◌, ◌<◌, ◌≤◌, List, length, map, All, Option, Some, None, slice_index, slice_index_or, if◌then◌else◌}
use Rattle.arena_core.specs.declared.arena.TheConstants.{MOST_CLAUSES}
use Rattle.arena_core.specs.declared.lit.TheConstants.{MOST_VARIABLES}
use Rattle.literals_core.specs.Literal.{variable_of}
use Rattle.literals_core.specs.Truth.{is_true, is_false}
use Rattle.watch_core.specs.Trail.{Entry, IsLeveled}
use Rattle.watch_core.specs.declared.trail.Mark.{Mark}
use Rattle.watch_core.specs.declared.trail.TheConstants.{NO_REASON}

-- the mark of a variable that was never assigned
abbrev pub blank : Mark
blank = record { level = 0; reason = NO_REASON }

-- the clause that a number stands for, if any
abbrev pub reason_of : ℕ → Option ℕ
reason_of n = if n == NO_REASON then None else Some n

-- a true literal with what the mark of its variable says
abbrev pub entry_of : {L : Type 0} → (L → ℕ) → List Mark → L → Entry L
entry_of at marks l =
    let mark = slice_index_or marks (variable_of (at l)) blank in
    record { literal = l; level = mark.level; reason = reason_of mark.reason }

-- the entries of a trail
abbrev pub entries_of : {L : Type 0} → (L → ℕ) → List Mark → List L → List (Entry L)
entries_of at marks order = map (entry_of at marks) order

-- the tables tell which literals are true and which are false, and each variable stands once
pub record IsKept {L : Type 0} (at : L → ℕ) (values : List ℕ) (marks : List Mark) (order : List L)
    (capacity taken : ℕ) : Type 0 where
  pub sizes : length values ≡ 2 * length marks
  pub inside : All (λ l. at l < length values) order
  pub apart : (i j : ℕ) (d : L) → i < j → j < length order
      → variable_of (at (slice_index_or order i d)) ≢ variable_of (at (slice_index_or order j d))
  pub trues : (x : ℕ) → x < length values → (slice_index values x == 1) ≡ is_true (map at order) x
  pub falses : (x : ℕ) → x < length values → (slice_index values x == 2) ≡ is_false (map at order) x
  pub room : length marks ≤ capacity
  pub within : taken ≤ length order

-- all that a trail keeps
pub record Keeps {L : Type 0} (at : L → ℕ) (values : List ℕ) (marks : List Mark) (order : List L)
    (capacity taken level : ℕ) : Type 0 where
  pub kept : IsKept at values marks order capacity taken
  pub leveled : IsLeveled (entries_of at marks order) level
  pub few : length marks ≤ MOST_VARIABLES
  pub reasons : All (λ (m : Mark). (m.reason ≡ NO_REASON) ⊎ (m.reason < MOST_CLAUSES)) marks
