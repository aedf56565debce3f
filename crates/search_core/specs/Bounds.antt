-- What keeps a search from its limit: lemmas are few, and unit propagation may end it before the first one.
use Rattle.std.specs.Prelude.{ℕ, ◌<◌, ◌≤◌, ◌⊎◌, List, length, slice_index_or, [], All, Contains}
use Rattle.literals_core.specs.Propagation.{IsGiven, MeetsConflict}
use Rattle.literals_core.specs.Formula.{Cnf, AreLiterals, plus, minus}
use Rattle.chain_core.specs.Fresh.{HasNoPair}

-- from the clauses alone, unit propagation meets a conflict or assigns every variable
abbrev pub PropagationEnds : Cnf → Type 0
PropagationEnds formula =
    MeetsConflict formula.clauses []
    ⊎ ((v : ℕ) → 1 ≤ v → v ≤ formula.variables
    → IsGiven formula.clauses [] (plus v) ⊎ IsGiven formula.clauses [] (minus v))

-- a clause is subsumed by another one if it has all literals of that one
abbrev pub IsSubsumedBy : List ℕ → List ℕ → Type 0
IsSubsumedBy clause other = All (Contains clause) other

-- clauses over the variables from 1 to this number: none has a literal and its negation, and none is subsumed by an
-- earlier one
pub record NoneSubsumed (variables : ℕ) (clauses : List (List ℕ)) : Type 0 where
  pub literals : AreLiterals variables clauses
  pub no_pair : All HasNoPair clauses
  pub later :
      (i j : ℕ) → i < j → j < length clauses
      → ¬ IsSubsumedBy (slice_index_or clauses j []) (slice_index_or clauses i [])
