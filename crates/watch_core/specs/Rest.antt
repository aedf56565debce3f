-- When propagation has come to rest.
use Rattle.std.specs.Prelude.{ℕ, ◌≡◌, ◌<◌, ◌≤◌, true, List, [], length, All, Option, Some, None, slice_index_or, ◌⊎◌}
use Rattle.std.specs.List.{list_any, list_all}
use Rattle.literals_core.specs.Literal.{negation}
use Rattle.literals_core.specs.Truth.{is_true, is_false}
use Rattle.literals_core.specs.Settled.{IsSettledByCount}
use Rattle.watch_core.specs.Trail.{Assignment, Entry, places, cut, waiting}

-- each clause of two or more literals is settled
abbrev pub AllSettled : List ℕ → List (List ℕ) → Type 0
AllSettled set clauses = All (λ clause. 2 ≤ length clause → IsSettledByCount set clause) clauses

-- the same under the trail cut at each level below one
abbrev pub SettledBelow : {L : Type 0} → (L → ℕ) → Assignment L → List (List ℕ) → Type 0
SettledBelow at t clauses = (level : ℕ) → level < t.level → AllSettled (places at (cut t.entries level)) clauses

-- on the whole trail each clause is settled, or has the negation of a waiting literal
abbrev pub SettledOrWaits : {L : Type 0} → (L → ℕ) → Assignment L → List (List ℕ) → Type 0
SettledOrWaits at t clauses =
    All (λ clause.
    2 ≤ length clause
    → IsSettledByCount (places at t.entries) clause
    ⊎ (list_any (λ l. is_true (places at (waiting t)) (negation l)) clause ≡ true)) clauses

-- all literals of a clause are false
abbrev pub IsClauseFalse : List ℕ → List ℕ → Type 0
IsClauseFalse set clause = list_all (is_false set) clause ≡ true

-- what `propagate` asks for
pub record CanPropagate {L : Type 0} (at : L → ℕ) (t : Assignment L) (clauses : List (List ℕ)) : Type 0 where
  pub current : All (λ (e : Entry L). e.level ≡ t.level) (waiting t)
  pub below : SettledBelow at t clauses
  pub whole : SettledOrWaits at t clauses

-- what `propagate` leaves if it comes to rest
pub record IsAtRest {L : Type 0} (at : L → ℕ) (t : Assignment L) (clauses : List (List ℕ)) : Type 0 where
  pub none_waits : waiting t ≡ []
  pub below : SettledBelow at t clauses
  pub whole : AllSettled (places at t.entries) clauses

-- a clause of two or more literals that are all false
pub record IsFalseClause (set : List ℕ) (clauses : List (List ℕ)) (id : ℕ) : Type 0 where
  pub known : id < length clauses
  pub long : 2 ≤ length (slice_index_or clauses id [])
  pub literals : IsClauseFalse set (slice_index_or clauses id [])

-- what it leaves if it met a false clause
pub record IsInConflict {L : Type 0} (at : L → ℕ) (t : Assignment L) (clauses : List (List ℕ)) (id : ℕ) : Type 0 where
  pub clause : IsFalseClause (places at t.entries) clauses id
  pub current : All (λ (e : Entry L). e.level ≡ t.level) (waiting t)
  pub below : SettledBelow at t clauses

-- None if propagation came to rest, else the number of a false clause
abbrev pub Outcome : {L : Type 0} → (L → ℕ) → Assignment L → List (List ℕ) → Option ℕ → Type 0
Outcome at t clauses None = IsAtRest at t clauses
Outcome at t clauses (Some id) = IsInConflict at t clauses id
