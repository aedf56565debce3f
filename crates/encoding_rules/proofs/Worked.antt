-- Worked formulas.
use Rattle.std.proofs.Common.{◌≡◌, ℕ, ℤ, pos, [], ◌∷◌, List, refl}
use Rattle.sorting_rule.specs.Preference.{rising, falling}
use Rattle.sorting_rule.specs.Examples.{Example}
use Rattle.encoding_rules.specs.Task.{Task, criteria, boundaries, direction_at, goods, bads, good_at, bad_at}
use Rattle.sorting_rule.specs.Rebuilt.{grade_on}
use Rattle.encoding_rules.specs.Ranks.{ranking, ranked, count_at, rank}
use Rattle.encoding_rules.specs.Unknowns.{counted, accepted, accepted_count, pair, separated, separated_count}
use Rattle.encoding_rules.specs.Shared.{better_clauses, lower_clauses}
use Rattle.encoding_rules.specs.Coalitions.{set_count, sufficient, larger_clauses, bad_set_clauses, good_set_clauses, coalition_variables, coalition_clauses, coalition_clause_count, coalition_literal_count}
use Rattle.encoding_rules.specs.Separation.{separated_clauses, steps, separation_variables, separation_clauses, separation_clause_count, separation_literal_count}

abbrev example : List ℤ → ℕ → Example
example grades category = record { grades = grades; category = category }

falls : ranking falling (pos 3 ∷ pos 7 ∷ pos 3 ∷ pos 5 ∷ []) ≡ pos 7 ∷ pos 5 ∷ pos 3 ∷ []
falls = refl

rises : ranking rising (pos 3 ∷ pos 7 ∷ pos 3 ∷ pos 5 ∷ []) ≡ pos 3 ∷ pos 5 ∷ pos 7 ∷ []
rises = refl

-- one grade in two categories
abbrev conflict : Task
conflict = record { directions = rising ∷ []; categories = 2; examples = example (pos 5 ∷ []) 0 ∷ example (pos 5 ∷ []) 1 ∷ [] }

conflict_formula : separation_clauses conflict ≡ (5 ∷ 2 ∷ []) ∷ (5 ∷ 3 ∷ []) ∷ (4 ∷ []) ∷ []
unfolding criteria boundaries direction_at grade_on goods bads good_at bad_at ranked count_at rank counted accepted accepted_count pair separated separated_count better_clauses lower_clauses separated_clauses
conflict_formula = refl

-- two criteria
abbrev two : Task
two = record { directions = rising ∷ rising ∷ []; categories = 2; examples = example (pos 1 ∷ pos 0 ∷ []) 1 ∷ example (pos 1 ∷ pos 1 ∷ []) 0 ∷ [] }

two_formula : separation_clauses two ≡ (5 ∷ 6 ∷ []) ∷ (9 ∷ 2 ∷ []) ∷ (9 ∷ 3 ∷ []) ∷ (11 ∷ 4 ∷ []) ∷ (11 ∷ 7 ∷ []) ∷ (8 ∷ 10 ∷ []) ∷ []
unfolding criteria boundaries direction_at grade_on goods bads good_at bad_at ranked count_at rank counted accepted accepted_count pair separated separated_count better_clauses lower_clauses separated_clauses
two_formula = refl

two_clauses : separation_clause_count two ≡ 6
unfolding criteria boundaries direction_at grade_on goods bads ranked count_at counted steps
two_clauses = refl

two_literals : separation_literal_count two ≡ 12
unfolding criteria boundaries direction_at grade_on goods bads ranked count_at counted steps
two_literals = refl

-- one example between two boundaries
abbrev middle : Task
middle = record { directions = rising ∷ []; categories = 3; examples = example (pos 5 ∷ []) 1 ∷ [] }

middle_formula : separation_clauses middle ≡ (5 ∷ 2 ∷ []) ∷ (7 ∷ 2 ∷ []) ∷ (7 ∷ 5 ∷ []) ∷ (6 ∷ []) ∷ []
unfolding criteria boundaries direction_at grade_on goods bads good_at bad_at ranked count_at rank counted accepted accepted_count pair separated separated_count better_clauses lower_clauses separated_clauses
middle_formula = refl

conflict_variables : separation_variables conflict ≡ 2
unfolding criteria boundaries direction_at grade_on goods bads ranked count_at counted accepted_count separated_count
conflict_variables = refl

two_variables : separation_variables two ≡ 5
unfolding criteria boundaries direction_at grade_on goods bads ranked count_at counted accepted_count separated_count
two_variables = refl

middle_variables : separation_variables middle ≡ 3
unfolding criteria boundaries direction_at grade_on goods bads ranked count_at counted accepted_count separated_count
middle_variables = refl

-- two grades, with the sets of one criterion
abbrev step : Task
step = record { directions = rising ∷ []; categories = 2; examples = example (pos 3 ∷ []) 0 ∷ example (pos 7 ∷ []) 1 ∷ [] }

step_formula : coalition_clauses step ≡ (3 ∷ 4 ∷ []) ∷ (7 ∷ 8 ∷ []) ∷ (7 ∷ []) ∷ (3 ∷ 9 ∷ []) ∷ (8 ∷ []) ∷ (4 ∷ 6 ∷ []) ∷ []
unfolding criteria boundaries direction_at grade_on goods bads good_at bad_at ranked count_at rank counted accepted accepted_count set_count sufficient better_clauses lower_clauses larger_clauses bad_set_clauses good_set_clauses
step_formula = refl

step_variables : coalition_variables step ≡ 4
unfolding criteria boundaries direction_at grade_on goods bads ranked count_at counted accepted_count set_count
step_variables = refl

step_clauses : coalition_clause_count step ≡ 6
unfolding criteria boundaries direction_at grade_on goods bads ranked count_at counted steps set_count
step_clauses = refl

step_literals : coalition_literal_count step ≡ 10
unfolding criteria boundaries direction_at grade_on goods bads ranked count_at counted steps set_count
step_literals = refl

-- the sets of two criteria
two_set_clauses : coalition_clause_count two ≡ 13
unfolding criteria boundaries direction_at grade_on goods bads ranked count_at counted steps set_count
two_set_clauses = refl
