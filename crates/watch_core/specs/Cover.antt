-- What holds of watched literals. Clauses are lists of places here.
use Rattle.std.specs.Prelude.{ℕ, ◌≡◌, ◌≢◌, ◌-◌, ◌*◌, ◌/◌, ◌%◌, ◌<◌, ◌≤◌, ◌==◌, Bool, true, false, List, [], length, All, Contains, slice_index_or, ◌⊎◌}
use Rattle.std.specs.List.{IsDistinct}
use Rattle.arena_core.specs.Chains.{chain_at}
use Rattle.literals_core.specs.Literal.{variable_of}
use Rattle.literals_core.specs.Truth.{is_true, is_false}
use Rattle.watch_core.specs.Trail.{Assignment, Entry, IsTrail, places, cut, waiting}

-- the clause of a seat, the literal at its side, and the one at the other side
abbrev pub clause_of : List (List ℕ) → ℕ → List ℕ
clause_of clauses s = slice_index_or clauses (s / 2) []

-- the literal that a seat watches
abbrev pub watched_at : List (List ℕ) → ℕ → ℕ
watched_at clauses s = slice_index_or (clause_of clauses s) (s % 2) 0

-- the literal that the other seat of its clause watches
abbrev pub beside : List (List ℕ) → ℕ → ℕ
beside clauses s = slice_index_or (clause_of clauses s) (1 - s % 2) 0

-- a seat watches the literal of its clause at its side
pub record IsWatch (clauses : List (List ℕ)) (place seat : ℕ) : Type 0 where
  pub known : seat / 2 < length clauses
  pub long : 2 ≤ length (slice_index_or clauses (seat / 2) [])
  pub at : slice_index_or (slice_index_or clauses (seat / 2) []) (seat % 2) 0 ≡ place

-- chains hold the seats of the first two literals of each clause, and no others
pub record Watches (clauses chains : List (List ℕ)) : Type 0 where
  pub seats : (p s : ℕ) → Contains (chain_at chains p) s → IsWatch clauses p s
  pub watched : (p s : ℕ) → IsWatch clauses p s → Contains (chain_at chains p) s

-- some literal of the clause is true
abbrev pub HasTrue : List ℕ → List ℕ → Type 0
HasTrue set clause = (l : ℕ) × Contains clause l × (is_true set l ≡ true)

-- all literals of a clause but one are false, and none of these waits
abbrev pub AllBut : List ℕ → List ℕ → List ℕ → ℕ → Type 0
AllBut set waits clause o = (l : ℕ) → Contains clause l → l ≢ o → (is_false set l ≡ true) × (is_false waits l ≡ false)

-- a watched literal is false and no longer waits only if its clause has a true literal, or all its others but the one
-- beside are false
abbrev pub Covered : Bool → List ℕ → List ℕ → List (List ℕ) → ℕ → Type 0
Covered strong set waits clauses s =
    s / 2 < length clauses → 2 ≤ length (clause_of clauses s)
    → is_false set (watched_at clauses s) ≡ true → is_false waits (watched_at clauses s) ≡ false
    → HasTrue set (clause_of clauses s)
    ⊎ (AllBut set waits (clause_of clauses s) (beside clauses s)
    × (strong ≡ true → is_false waits (beside clauses s) ≡ true))

-- each seat is covered
abbrev pub AllCovered : Bool → List ℕ → List ℕ → List (List ℕ) → Type 0
AllCovered strong set waits clauses = (s : ℕ) → Covered strong set waits clauses s

-- the same under each cut of the trail
abbrev pub CoveredAtCuts : {L : Type 0} → Bool → (L → ℕ) → Assignment L → List (List ℕ) → Type 0
CoveredAtCuts strong at t clauses =
    (k : ℕ) → k ≤ t.level → AllCovered strong (places at (cut t.entries k)) (places at (cut (waiting t) k)) clauses

-- what holds between the calls of `Watched`; and, if it is strong, inside `propagate`
pub record IsCovered {L : Type 0} (strong : Bool) (at : L → ℕ) (clauses chains : List (List ℕ))
    (t : Assignment L) : Type 0 where
  pub trail : IsTrail at t
  pub watches : Watches clauses chains
  pub covered : CoveredAtCuts strong at t clauses
  pub inside : (c l : ℕ) → Contains (slice_index_or clauses c []) l → l < 2 * t.variables
  pub distinct : (c : ℕ) → IsDistinct (λ x y. variable_of x == variable_of y) (slice_index_or clauses c [])
  pub size : length chains ≡ 2 * t.variables

-- what holds inside `propagate`: all waiting literals are of the current level
pub record IsPropagating {L : Type 0} (at : L → ℕ) (clauses chains : List (List ℕ)) (t : Assignment L) : Type 0 where
  pub covers : IsCovered true at clauses chains t
  pub current : All (λ (e : Entry L). e.level ≡ t.level) (waiting t)
