-- Clauses of which unit propagation has nothing to say.
use Rattle.std.specs.Prelude.{ℕ, ◌≡◌, ◌≢◌, ◌≤◌, ◌⊎◌, true, List, length, Contains, Any}
use Rattle.std.specs.List.{list_any}
use Rattle.literals_core.specs.Truth.{IsTrueUnder, IsFalseUnder, is_true, open_literals}

-- two different literals of the clause are not false
pub record HasTwoOpen (set clause : List ℕ) : Type 0 where
  pub first : ℕ
  pub second : ℕ
  pub differ : first ≢ second
  pub among : Contains clause first × Contains clause second
  pub not_false : (¬ IsFalseUnder set first) × (¬ IsFalseUnder set second)

-- some literal is true, or at least two different ones are not false
abbrev pub IsSettled : List ℕ → List ℕ → Type 0
IsSettled set clause = Any (IsTrueUnder set) clause ⊎ HasTwoOpen set clause

-- the same by a count, in which a literal that occurs twice counts twice
abbrev pub IsSettledByCount : List ℕ → List ℕ → Type 0
IsSettledByCount set clause = (list_any (is_true set) clause ≡ true) ⊎ (2 ≤ length (open_literals set clause))
