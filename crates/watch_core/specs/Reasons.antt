-- Why the literals of a trail are true: by a clause, or by a decision.
use Rattle.std.specs.Prelude.{ℕ, ◌≡◌, ◌≢◌, ◌<◌, ◌≤◌, true, List, [], length, All, Some, None, Contains, slice_index_or, ◌⊎◌}
use Rattle.literals_core.specs.Literal.{negation}
use Rattle.literals_core.specs.Truth.{is_false}
use Rattle.watch_core.specs.Trail.{Assignment, Entry}
use Rattle.watch_core.specs.Propagates.{IsReason}

-- a clause has a literal, and its other literals are false
pub record IsUnitFor (set : List ℕ) (clauses : List (List ℕ)) (id literal : ℕ) : Type 0 where
  pub known : id < length clauses
  pub has : Contains (slice_index_or clauses id []) literal
  pub others : All (λ l. (l ≡ literal) ⊎ (is_false set l ≡ true)) (slice_index_or clauses id [])

-- each entry with a reason has it: a clause with the entry's literal, whose other literals are false and earlier
abbrev pub HasReasons : {L : Type 0} → (L → ℕ) → Assignment L → List (List ℕ) → Type 0
HasReasons {L} at t clauses =
    (i id : ℕ) (e : Entry L) → i < length t.entries → (slice_index_or t.entries i e).reason ≡ Some id
    → IsReason at t clauses i id

-- all entries before one are of lower levels
abbrev pub BeginsLevel : {L : Type 0} → Assignment L → ℕ → Type 0
BeginsLevel {L} t i = (j : ℕ) (e : Entry L) → j < i
    → (slice_index_or t.entries j e).level < (slice_index_or t.entries i e).level

-- the entry at a place is the decision of a level
pub record IsDecisionOf {L : Type 0} (t : Assignment L) (level i : ℕ) : Type 0 where
  pub known : i < length t.entries
  pub on_level : (e : Entry L) → (slice_index_or t.entries i e).level ≡ level
  pub without_reason : (e : Entry L) → (slice_index_or t.entries i e).reason ≡ None
  pub begins : BeginsLevel t i

-- each level above 0 begins with its decision, and above level 0 no other entry is without a reason
pub record HasDecisions {L : Type 0} (t : Assignment L) : Type 0 where
  pub each_level : (level : ℕ) → 1 ≤ level → level ≤ t.level → (i : ℕ) × IsDecisionOf t level i
  pub no_others :
      (i : ℕ) (e : Entry L) → i < length t.entries → (slice_index_or t.entries i e).reason ≡ None
      → 0 < (slice_index_or t.entries i e).level → BeginsLevel t i

-- each entry of level 0 has a reason
abbrev pub HasReasonsAtStart : {L : Type 0} → Assignment L → Type 0
HasReasonsAtStart {L} t =
    (i : ℕ) (e : Entry L) → i < length t.entries → (slice_index_or t.entries i e).level ≡ 0
    → (slice_index_or t.entries i e).reason ≢ None

-- a literal became false on a level
abbrev pub IsFalseOn : {L : Type 0} → (L → ℕ) → Assignment L → ℕ → ℕ → Type 0
IsFalseOn {L} at t level literal =
    (i : ℕ) × (i < length t.entries)
    × ((e : Entry L)
    → (at (slice_index_or t.entries i e).literal ≡ negation literal)
    × ((slice_index_or t.entries i e).level ≡ level))

-- two literals of a clause became false on a level
pub record HasTwoFalseOn {L : Type 0} (at : L → ℕ) (t : Assignment L) (level : ℕ) (clause : List ℕ) : Type 0 where
  pub first : ℕ
  pub second : ℕ
  pub apart : first < second
  pub inside : second < length clause
  pub falses : IsFalseOn at t level (slice_index_or clause first 0)
      × IsFalseOn at t level (slice_index_or clause second 0)
