-- What an analysis keeps, and what it gives.
use Rattle.std.specs.Prelude.{ℕ, ◌≡◌, ◌≢◌, ◌+◌, ◌*◌, ◌<◌, ◌≤◌, ◌⊎◌, List, [], ◌∷◌, length, ◌++◌, IsPermutation, All, Option, Some, None, IfSome, IsSome, Contains, slice_index_or, slice_index, reverse, map}
use Rattle.literals_core.specs.Literal.{variable_of, negation}
use Rattle.literals_core.specs.Truth.{IsFalseUnder}
use Rattle.watch_core.specs.Trail.{Assignment, assigned, undone}
use Rattle.chain_core.specs.declared.log.Lemma.{Lemma}
use Rattle.watch_core.specs.Propagates.{AreReordered}
use Rattle.chain_core.specs.Chain.{Chains}
use Rattle.literals_core.specs.DistinctVariables.{HasDistinctVariables}
use Rattle.search_core.specs.Inner.{outer}
use Rattle.search_core.specs.State.{entry_at, IsEntry}

-- the literal is false on a level below the current one
abbrev pub IsLower : Assignment ℕ → ℕ → Type 0
IsLower t l = (i : ℕ) × IsEntry t (negation l) i × ((entry_at t i).level < t.level)

abbrev pub HasMark : List ℕ → ℕ → ℕ → Type 0
HasMark stamps stamp l = slice_index stamps (variable_of l) ≡ stamp

-- a marked variable of the trail is of the current level, or the negation of its literal is among the lower ones
pub record AreMarked (t : Assignment ℕ) (stamps : List ℕ) (stamp : ℕ) (lower : List ℕ) : Type 0 where
  pub lows : All (IsLower t) lower
  pub apart : HasDistinctVariables lower
  pub have : All (HasMark stamps stamp) lower
  pub marked :
      (i : ℕ) → i < length t.entries → HasMark stamps stamp (entry_at t i).literal
      → ((entry_at t i).level ≡ t.level) ⊎ Contains lower (negation (entry_at t i).literal)

-- a marked entry of the current level
pub record IsOpen (t : Assignment ℕ) (stamps : List ℕ) (stamp i : ℕ) : Type 0 where
  pub known : i < length t.entries
  pub current : (entry_at t i).level ≡ t.level
  pub mark : HasMark stamps stamp (entry_at t i).literal

-- the last open entry below a place, if any
abbrev pub IsLastOpen : Assignment ℕ → List ℕ → ℕ → ℕ → Option ℕ → Type 0
IsLastOpen t stamps stamp below None = (i : ℕ) → i < below → ¬ IsOpen t stamps stamp i
IsLastOpen t stamps stamp below (Some p) =
    (p < below) × IsOpen t stamps stamp p × ((i : ℕ) → p < i → i < below → ¬ IsOpen t stamps stamp i)

-- from each set that has the open entries below a place, and the negations of the lower literals, the hints chain
abbrev pub ChainsFrom : Assignment ℕ → List (List ℕ) → List ℕ → ℕ → ℕ → List ℕ → List ℕ → Type 0
ChainsFrom t clauses stamps stamp below lower hints =
    (known : List (List ℕ)) (set : List ℕ) → AreReordered known clauses → All (IsFalseUnder set) lower
    → ((i : ℕ) → i < below → IsOpen t stamps stamp i → Contains set (entry_at t i).literal)
    → Chains known set (reverse hints)

-- what a lemma is made of: the negation of the point, which is true on the current level, and lower literals; at level
-- 0 there is no point
pub record IsPoint (t : Assignment ℕ) (lower : List ℕ) (point : ℕ) : Type 0 where
  pub above : 0 < t.level
  pub entry : (i : ℕ) × IsEntry t point i × ((entry_at t i).level ≡ t.level)
  pub lows : All (IsLower t) lower
  pub apart : HasDistinctVariables lower

abbrev pub IsMade : Assignment ℕ → Option ℕ → List ℕ → Type 0
IsMade t None lower = t.level ≡ 0
IsMade t (Some point) lower = IsPoint t lower point

-- hints, the last one first, show a lemma, in whatever order the literals of the clauses are: they chain from each set
-- that has the point and makes the lower literals false; without a point, from the empty set
abbrev pub Show : List (List ℕ) → Option ℕ → List ℕ → List ℕ → Type 0
Show clauses None lower hints = (known : List (List ℕ)) → AreReordered known clauses → Chains known [] (reverse hints)
Show clauses (Some point) lower hints =
    (known : List (List ℕ)) (set : List ℕ) → AreReordered known clauses → All (IsFalseUnder set) lower
    → Contains set point → Chains known set (reverse hints)

-- some entry of the current level makes a literal of the clause false
abbrev pub HasCurrent : Assignment ℕ → List ℕ → Type 0
HasCurrent t clause =
    (i : ℕ) × (i < length t.entries) × ((entry_at t i).level ≡ t.level)
    × Contains clause (negation (entry_at t i).literal)

-- each literal of the clause is false, or marked
abbrev pub IsFalseOrMarked : Assignment ℕ → List ℕ → ℕ → ℕ → Type 0
IsFalseOrMarked t stamps stamp l = HasMark stamps stamp l ⊎ ((i : ℕ) × IsEntry t (negation l) i)

-- marks and lower literals stay, and more may come
pub record Grows (stamps : List ℕ) (stamp : ℕ) (lower stamps' lower' : List ℕ) : Type 0 where
  pub marks : (l : ℕ) → HasMark stamps stamp l → HasMark stamps' stamp l
  pub lowers : (l : ℕ) → Contains lower l → Contains lower' l

-- the end of what is open: one above the last open entry
abbrev pub below_of : Option ℕ → ℕ
below_of None = 0
below_of (Some p) = p + 1

-- what holds on the way back from the false clause; the last open entry is at a place, if there is one
pub record IsWalked (t : Assignment ℕ) (clauses : List (List ℕ)) (stamps : List ℕ) (stamp : ℕ) (lower hints : List ℕ)
    (last : Option ℕ) : Type 0 where
  pub marks : AreMarked t stamps stamp lower
  pub chain : ChainsFrom t clauses stamps stamp (below_of last) lower hints
  pub at : IfSome last (IsOpen t stamps stamp)
  pub some : 0 < t.level → IsSome last
  pub ids : All (λ h. (1 ≤ h) × (h ≤ length clauses)) hints
  pub few : length hints + below_of last ≤ length t.entries + 1

-- an open entry below a place
abbrev pub HasOpenBelow : Assignment ℕ → List ℕ → ℕ → ℕ → Type 0
HasOpenBelow t stamps stamp p = (i : ℕ) × (i < p) × IsOpen t stamps stamp i

-- the literals of clauses are of variables that there are
abbrev pub AreInside : Assignment ℕ → List (List ℕ) → Type 0
AreInside t clauses = (c l : ℕ) → Contains (slice_index_or clauses c []) l → l < 2 * t.variables

-- the level on which a literal became false
abbrev pub HasLevel : Assignment ℕ → ℕ → ℕ → Type 0
HasLevel t l level = (i : ℕ) → IsEntry t (negation l) i → (entry_at t i).level ≡ level

-- no lower literal became false above this level, and the first did on it; without lower literals it is level 0
pub record IsHighest (t : Assignment ℕ) (lower : List ℕ) (level : ℕ) : Type 0 where
  pub most : (k i : ℕ) → k < length lower → IsEntry t (negation (slice_index_or lower k 0)) i
      → (entry_at t i).level ≤ level
  pub first : 0 < length lower → HasLevel t (slice_index_or lower 0 0) level
  pub none : lower ≡ [] → level ≡ 0

-- a lemma was logged and added, the trail went back, and the lemma's first literal was assigned
pub record IsLearned (clauses : List (List ℕ)) (t : Assignment ℕ) (log : List Lemma) (point : ℕ) (lower hints : List ℕ)
    (clauses' : List (List ℕ)) (t' : Assignment ℕ) (log' : List Lemma) : Type 0 where
  pub others : List ℕ
  pub level : ℕ
  pub order : IsPermutation lower others
  pub highest : IsHighest t others level
  pub logged :
      log'
      ≡ log
      ++ record {
        id = length clauses + 1;
        literals = map outer
            (negation point ∷ others);
        hints = reverse hints;
      } ∷ []
  pub added : clauses' ≡ clauses ++ (negation point ∷ others) ∷ []
  pub trail : t' ≡ assigned (undone t level) (negation point) (Some (length clauses))

-- an analysis of a false clause
pub record IsExplained (t : Assignment ℕ) (clauses : List (List ℕ)) (point : Option ℕ)
    (lower hints : List ℕ) : Type 0 where
  pub made : IsMade t point lower
  pub shown : Show clauses point lower hints
  pub ids : All (λ h. (1 ≤ h) × (h ≤ length clauses)) hints
  pub few : length hints ≤ length t.entries + 1

-- the literal is the negation of another one, or false
abbrev pub IsFalseOrOpposite : Assignment ℕ → ℕ → ℕ → Type 0
IsFalseOrOpposite t left x = (x ≡ negation left) ⊎ ((i : ℕ) × IsEntry t (negation x) i)

-- the literal is the negation of one that is left out, or one of the others
abbrev pub Fits : ℕ → List ℕ → ℕ → Type 0
Fits l lower x = (x ≡ negation l) ⊎ (Contains lower x × (x ≢ l))

-- with this clause a literal follows from the others
pub record Gives (clauses : List (List ℕ)) (id l : ℕ) (lower : List ℕ) : Type 0 where
  pub known : id < length clauses
  pub has : Contains (slice_index_or clauses id []) (negation l)
  pub others : All (Fits l lower) (slice_index_or clauses id [])
