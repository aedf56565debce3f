-- What one visited seat and one walked chain leave.
use Rattle.std.specs.Prelude.{ℕ, ◌≡◌, ◌≢◌, ◌/◌, ◌<◌, ◌≤◌, List, length}
use Rattle.arena_core.specs.Chains.{put_first, taken_out}
use Rattle.watch_core.specs.Trail.{Assignment, places}
use Rattle.watch_core.specs.Rest.{IsClauseFalse}
use Rattle.watch_core.specs.Cover.{clause_of, watched_at, HasTrue}
use Rattle.watch_core.specs.declared.walk.Visit.{Visit}
use Rattle.watch_core.specs.declared.walk.Visit.TheVariants.{Stays, Moved, False}

-- a seat of a clause of two or more literals
pub record IsSeat (clauses : List (List ℕ)) (seat : ℕ) : Type 0 where
  pub known : seat / 2 < length clauses
  pub long : 2 ≤ length (clause_of clauses seat)

-- the seat stays, and its clause has a true literal; or it moved to another chain; or its clause is false
abbrev pub Visited : {L : Type 0} → (L → ℕ) → List (List ℕ) → List (List ℕ) → Assignment L → List (List ℕ)
    → List (List ℕ) → Assignment L → ℕ → Visit → Type 0
Visited at clauses chains t clauses' chains' t' seat Stays =
    (chains' ≡ chains) × HasTrue (places at t'.entries) (clause_of clauses' seat)
Visited at clauses chains t clauses' chains' t' seat Moved =
    (g : ℕ) × (g ≢ watched_at clauses seat) × (chains' ≡ put_first (taken_out chains seat) g seat)
Visited at clauses chains t clauses' chains' t' seat False =
    IsClauseFalse (places at t'.entries) (clause_of clauses' seat)

-- each clause that watches a literal has a true one
abbrev pub AllWalked : List ℕ → List (List ℕ) → ℕ → Type 0
AllWalked set clauses p = (s : ℕ) → s / 2 < length clauses → 2 ≤ length (clause_of clauses s) → watched_at clauses s ≡ p
    → HasTrue set (clause_of clauses s)
