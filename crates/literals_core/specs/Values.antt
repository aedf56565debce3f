-- Truth values of variables, and what they make true.
use Rattle.std.specs.Prelude.{ℕ, ◌≡◌, ◌==◌, ◌%◌, Bool, true, not, List, All, if◌then◌else◌}
use Rattle.std.specs.List.{list_any}
use Rattle.literals_core.specs.Literal.{variable_of}
use Rattle.literals_core.specs.Formula.{Cnf}

-- a literal with a plus has the value of its variable, and one with a minus the other value
abbrev pub literal_true : (ℕ → Bool) → ℕ → Bool
literal_true values l = if l % 2 == 0 then values (variable_of l) else not (values (variable_of l))

-- a clause is true if some literal is
abbrev pub clause_true : (ℕ → Bool) → List ℕ → Bool
clause_true values clause = list_any (literal_true values) clause

-- these values make every clause true
abbrev pub Satisfies : (ℕ → Bool) → List (List ℕ) → Type 0
Satisfies values clauses = All (λ clause. clause_true values clause ≡ true) clauses

-- no values make every clause true
abbrev pub AreUnsatisfiable : List (List ℕ) → Type 0
AreUnsatisfiable clauses = (values : ℕ → Bool) → ¬ Satisfies values clauses

-- no values make every clause of a formula true
abbrev pub IsUnsatisfiable : Cnf → Type 0
IsUnsatisfiable formula = AreUnsatisfiable formula.clauses
