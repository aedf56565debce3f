-- Formulas in conjunctive normal form: variables are numbered from 1, and a clause is a list of literals (the numbering
-- of DIMACS).
use Rattle.std.specs.Prelude.{ℕ, ◌≤◌, ◌+◌, ◌*◌, List, All}
use Rattle.literals_core.specs.Literal.{variable_of}

-- a number of variables, and clauses
pub record Cnf : Type 0 where
  pub variables : ℕ
  pub clauses : List (List ℕ)

-- the literals of a variable, with a plus and with a minus
abbrev pub plus : ℕ → ℕ
plus variable = 2 * variable

abbrev pub minus : ℕ → ℕ
minus variable = 2 * variable + 1

-- no literal is of a variable above this number
abbrev pub InRange : ℕ → List (List ℕ) → Type 0
InRange variables clauses = All (λ clause. All (λ l. variable_of l ≤ variables) clause) clauses

-- every literal is of a variable from 1 to this number
abbrev pub AreLiterals : ℕ → List (List ℕ) → Type 0
AreLiterals variables clauses = All (λ clause. All (λ l. (2 ≤ l) × (variable_of l ≤ variables)) clause) clauses
