-- What holds between the steps of a search. Its literals are seen as their places.
use Rattle.std.specs.Prelude.{ℕ, ◌≡◌, ◌≢◌, ◌+◌, ◌*◌, ◌<◌, ◌≤◌, List, [], length, Some, None, Contains, slice_index_or}
use Rattle.watch_core.specs.Trail.{Assignment, Entry, places, value_of}
use Rattle.watch_core.specs.Propagates.{IsReason, AreReordered}
use Rattle.watch_core.specs.Reasons.{HasReasons, HasDecisions, HasReasonsAtStart}
use Rattle.watch_core.specs.Rest.{IsClauseFalse}

-- a literal of the search is its own place
abbrev pub place : ℕ → ℕ
place l = l

-- the entry past the end of a trail
abbrev pub no_entry : Entry ℕ
no_entry = record { literal = 0; level = 0; reason = None }

abbrev pub entry_at : Assignment ℕ → ℕ → Entry ℕ
entry_at t i = slice_index_or t.entries i no_entry

-- the entry at place i is that of a literal
pub record IsEntry (t : Assignment ℕ) (literal i : ℕ) : Type 0 where
  pub known : i < length t.entries
  pub is : (entry_at t i).literal ≡ literal

-- an implied literal has a reason
abbrev pub IsImplied : Assignment ℕ → List (List ℕ) → ℕ → Type 0
IsImplied t clauses i = (id : ℕ) × ((entry_at t i).reason ≡ Some id) × IsReason place t clauses i id

-- what is known of why literals are true: each entry with a reason has it; above level 0 an entry without one is the
-- first of its level, and on level 0 there is none
pub record AreReasoned (t : Assignment ℕ) (clauses : List (List ℕ)) : Type 0 where
  pub reasons : HasReasons place t clauses
  pub decisions : HasDecisions t
  pub start : HasReasonsAtStart t

-- some literal of the clause is true at level 0
abbrev pub IsTrueAtStart : Assignment ℕ → List ℕ → Type 0
IsTrueAtStart t clause =
    (i : ℕ) × (i < length t.entries) × ((entry_at t i).level ≡ 0) × Contains clause (entry_at t i).literal

-- the clauses are those that are known, each in some order; it is known why literals are true; and of the first n
-- clauses each that has no literal or one alone is true at level 0
pub record IsSound (n : ℕ) (known clauses : List (List ℕ)) (t : Assignment ℕ) : Type 0 where
  pub order : AreReordered known clauses
  pub reasoned : AreReasoned t clauses
  pub units : (c : ℕ) → c < n → length (slice_index_or clauses c []) ≤ 1 → IsTrueAtStart t (slice_index_or clauses c [])

-- a step after which what held still holds
pub record GoesOn (clauses : List (List ℕ)) (t : Assignment ℕ) (clauses' : List (List ℕ))
    (t' : Assignment ℕ) : Type 0 where
  pub sound : (n : ℕ) (known : List (List ℕ)) → IsSound n known clauses t → IsSound n known clauses' t'
  pub variables : t'.variables ≡ t.variables
  pub count : length clauses' ≡ length clauses

-- each variable below this number is assigned
abbrev pub AreAssigned : Assignment ℕ → ℕ → Type 0
AreAssigned t count = (v : ℕ) → v < count → value_of (places place t.entries) (2 * v + 1) ≢ None

-- a literal of a variable that is not assigned
pub record CanDecide (t : Assignment ℕ) (l : ℕ) : Type 0 where
  pub inside : l < 2 * t.variables
  pub free : value_of (places place t.entries) l ≡ None

-- a false clause at level 0
pub record IsFalseAtStart (known clauses : List (List ℕ)) (t : Assignment ℕ) (id : ℕ) : Type 0 where
  pub inside : id < length clauses
  pub out : IsClauseFalse (places place t.entries) (slice_index_or clauses id [])
  pub start : t.level ≡ 0
  pub order : AreReordered known clauses
  pub reasoned : AreReasoned t clauses
