-- Clauses that a formula takes.
use Rattle.std.specs.Prelude.{◌≡◌, ◌≤◌, ◌<◌, ◌+◌, ◌*◌, ℕ, List, ◌++◌, length, slice_index_or, Result, OnOk}
use Rattle.literals_core.specs.Formula.{Cnf}
use Rattle.chain_core.specs.declared.literal.TheConstants.{GREATEST_VARIABLE}
use Rattle.chain_core.specs.declared.formula.TheConstants.{MOST_CLAUSES}
use Rattle.literals_core.specs.Formula.{AreLiterals}

-- there is room for these clauses, and their literals are of the formula's variables
pub record CanTake (formula : Cnf) (clauses : List (List ℕ)) : Type 0 where
  pub small : formula.variables ≤ GREATEST_VARIABLE
  pub room : length formula.clauses + length clauses ≤ MOST_CLAUSES
  pub range : AreLiterals formula.variables clauses

-- a call that appends them
pub record Takes {E : Type 0} (old new : Cnf) (result : Result Unit E) (clauses : List (List ℕ)) : Type 0 where
  pub variables : new.variables ≡ old.variables
  pub taken : OnOk result (new.clauses ≡ old.clauses ++ clauses)

-- the unknowns of each criterion are numbers that a formula can have
abbrev pub AreSmall : ℕ → List ℕ → List ℕ → Type 0
AreSmall boundaries counts firsts =
    (i : ℕ) → i < length counts → slice_index_or firsts i 0 + boundaries * slice_index_or counts i 0
    ≤ GREATEST_VARIABLE + 1
