-- The formula of a task in an encoding, and which tasks have one.
use Rattle.std.specs.Prelude.{ℕ, ◌<◌, ◌≤◌, ⊤, List}
use Rattle.literals_core.specs.Formula.{Cnf}
use Rattle.literals_core.specs.declared.encoding.Encoding.{Encoding}
use Rattle.literals_core.specs.declared.encoding.Encoding.TheVariants.{Separation, Coalitions}
use Rattle.encoding_rules.specs.Task.{Task, criteria}
use Rattle.encoding_rules.specs.Separation.{separation_variables, separation_clauses, separation_clause_count}
use Rattle.encoding_rules.specs.Separation.{separation_literal_count}
use Rattle.encoding_rules.specs.Coalitions.{coalition_variables, coalition_clauses, coalition_clause_count}
use Rattle.encoding_rules.specs.Coalitions.{coalition_literal_count}

-- the number of variables of a task's formula
abbrev pub variables_of : Encoding → Task → ℕ
variables_of Separation task = separation_variables task
variables_of Coalitions task = coalition_variables task

-- its clauses
abbrev pub clauses_of : Encoding → Task → List (List ℕ)
clauses_of Separation task = separation_clauses task
clauses_of Coalitions task = coalition_clauses task

-- the number of its clauses
abbrev pub clause_count_of : Encoding → Task → ℕ
clause_count_of Separation task = separation_clause_count task
clause_count_of Coalitions task = coalition_clause_count task

-- the number of its literals
abbrev pub literal_count_of : Encoding → Task → ℕ
literal_count_of Separation task = separation_literal_count task
literal_count_of Coalitions task = coalition_literal_count task

-- the formula of a task
abbrev pub formula_of : Encoding → Task → Cnf
formula_of encoding task = record { variables = variables_of encoding task; clauses = clauses_of encoding task }

-- only coalitions, with an unknown for each set of criteria, are limited in the number of criteria: to 12
abbrev pub IsNarrow : Encoding → Task → Type 0
IsNarrow Separation task = ⊤
IsNarrow Coalitions task = criteria task ≤ 12

abbrev pub IsWide : Encoding → Task → Type 0
IsWide Separation task = ⊥
IsWide Coalitions task = 12 < criteria task

-- a formula has at most 33,554,432 literals
abbrev pub IsLarge : Encoding → Task → Type 0
IsLarge encoding task = 33554432 < literal_count_of encoding task

-- a task has a formula if its criteria and its literals are few enough
pub record HasFormula (encoding : Encoding) (task : Task) : Type 0 where
  pub narrow : IsNarrow encoding task
  pub small : literal_count_of encoding task ≤ 33554432
