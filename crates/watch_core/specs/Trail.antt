-- What is assigned: the true literals in order, with a level and maybe a reason each.
use Rattle.std.specs.Prelude.{ℕ, ◌+◌, ◌*◌, ◌≢◌, ◌<◌, ◌≤◌, nat_le, Bool, true, false, List, [], ◌∷◌, ◌++◌, length, map, drop, filter, min, Option, Some, None, slice_index_or, if◌then◌else◌, All}
use Rattle.arena_core.specs.declared.lit.TheConstants.{MOST_VARIABLES}
use Rattle.literals_core.specs.Literal.{variable_of}
use Rattle.literals_core.specs.Truth.{is_true, is_false}

-- a true literal, its level, and the clause that it follows from, if any
pub record Entry (L : Type 0) : Type 0 where
  pub literal : L
  pub level : ℕ
  pub reason : Option ℕ

-- the value of a trail: its entries in order, and how many of them propagation has taken in
pub record Assignment (L : Type 0) : Type 0 where
  pub variables : ℕ
  pub entries : List (Entry L)
  pub level : ℕ
  pub taken : ℕ

-- the true literals, the oldest first
abbrev pub order : {L : Type 0} → List (Entry L) → List L
order entries = map (λ e. e.literal) entries

-- their places
abbrev pub places : {L : Type 0} → (L → ℕ) → List (Entry L) → List ℕ
places at entries = map (λ e. at e.literal) entries

-- the entries of levels up to one: what is left when the trail is cut there
abbrev pub cut : {L : Type 0} → List (Entry L) → ℕ → List (Entry L)
cut entries level = filter (λ e. nat_le e.level level) entries

-- the literals that wait for propagation
abbrev pub waiting : {L : Type 0} → Assignment L → List (Entry L)
waiting t = drop t.taken t.entries

-- true, false, or not assigned
abbrev pub value_of : List ℕ → ℕ → Option Bool
value_of set l = if is_true set l then Some true else (if is_false set l then Some false else None)

-- after one more literal on a level
abbrev pub entered : {L : Type 0} → Assignment L → L → ℕ → Option ℕ → Assignment L
entered t literal level reason = record {
  entries = t.entries ++ record { literal = literal; level = level; reason = reason } ∷ [];
  level = level;
  taken = t.taken;
  variables = t.variables;
}

-- after one more literal on the current level
abbrev pub assigned : {L : Type 0} → Assignment L → L → Option ℕ → Assignment L
assigned t literal reason = entered t literal t.level reason

-- after a decision on a new level
abbrev pub decided : {L : Type 0} → Assignment L → L → Assignment L
decided t literal = entered t literal (t.level + 1) None

-- the literals of higher levels have left
abbrev pub undone : {L : Type 0} → Assignment L → ℕ → Assignment L
undone t level = record {
  entries = cut t.entries level;
  level = level;
  taken = min t.taken (length (cut t.entries level));
  variables = t.variables;
}

-- the first waiting literal was taken in
abbrev pub one_taken : {L : Type 0} → Assignment L → Assignment L
one_taken t = record { entries = t.entries; level = t.level; taken = t.taken + 1; variables = t.variables }

-- no literals
abbrev pub empty_trail : {L : Type 0} → ℕ → Assignment L
empty_trail variables = record { entries = []; level = 0; taken = 0; variables = variables }

-- levels along a trail: none falls, none is above the current one, and the entries of levels up to k are at least k
pub record IsLeveled {L : Type 0} (entries : List (Entry L)) (level : ℕ) : Type 0 where
  pub sorted : (i j : ℕ) (d : Entry L) → i < j → j < length entries
      → (slice_index_or entries i d).level ≤ (slice_index_or entries j d).level
  pub below : All (λ (e : Entry L). e.level ≤ level) entries
  pub begun : (k : ℕ) → k ≤ level → k ≤ length (cut entries k)

-- what holds of each trail
pub record IsTrail {L : Type 0} (at : L → ℕ) (t : Assignment L) : Type 0 where
  pub inside : All (λ (e : Entry L). at e.literal < 2 * t.variables) t.entries
  pub leveled : IsLeveled t.entries t.level
  pub within : t.taken ≤ length t.entries
  pub few : t.variables ≤ MOST_VARIABLES
  pub low : t.level ≤ t.variables
  pub short : length t.entries ≤ t.variables
  pub apart : (i j : ℕ) (d : Entry L) → i < j → j < length t.entries
      → variable_of (at (slice_index_or t.entries i d).literal) ≢ variable_of
      (at (slice_index_or t.entries j d).literal)
