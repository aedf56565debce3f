-- The separation encoding: some criterion separates each good example from each bad one, so no unknown is needed for a
-- set of criteria (after Belahcène and others 2018).
use Rattle.std.specs.Prelude.{ℕ, ◌+◌, ◌-◌, ◌*◌, List, [], ◌∷◌, ◌++◌, length}
use Rattle.encoding_rules.specs.Each.{each, listed, total}
use Rattle.encoding_rules.specs.Task.{Task, criteria, boundaries, goods, bads, good_at, bad_at}
use Rattle.encoding_rules.specs.Ranks.{count_at, rank}
use Rattle.literals_core.specs.Formula.{plus, minus}
use Rattle.encoding_rules.specs.Unknowns.{counted, accepted, accepted_count, separated, separated_count}
use Rattle.encoding_rules.specs.Shared.{better_clauses, lower_clauses}

-- a criterion that separates the pair accepts the good one
abbrev pub good_clause : Task → ℕ → ℕ → ℕ → List ℕ
good_clause task a b i = let g = good_at task a in
    minus (separated task a b i) ∷ plus (accepted task i (g.category - 1) (rank task i g)) ∷ []

-- and doesn't accept the bad one
abbrev pub bad_clause : Task → ℕ → ℕ → ℕ → List ℕ
bad_clause task a b i = let e = bad_at task b in
    minus (separated task a b i) ∷ minus (accepted task i e.category (rank task i e)) ∷ []

-- some criterion separates the pair
abbrev pub some_clause : Task → ℕ → ℕ → List ℕ
some_clause task a b = listed (λ i. plus (separated task a b i)) (criteria task)

abbrev pub pair_clauses : Task → ℕ → ℕ → List (List ℕ)
pair_clauses task a b =
    each (λ i. good_clause task a b i ∷ bad_clause task a b i ∷ []) (criteria task) ++ some_clause task a b ∷ []

unfoldable pub separated_clauses : Task → List (List ℕ)
separated_clauses task = each (λ a. each (pair_clauses task a) (length (bads task))) (length (goods task))

-- the formula: its number of variables, and its clauses
abbrev pub separation_variables : Task → ℕ
separation_variables task = accepted_count task + separated_count task

abbrev pub separation_clauses : Task → List (List ℕ)
separation_clauses task = better_clauses task ++ (lower_clauses task ++ separated_clauses task)

-- the numbers of its clauses and of its literals
unfoldable pub steps : Task → ℕ
steps task = total (λ i. count_at task i - 1) (criteria task)

abbrev pub separation_clause_count : Task → ℕ
separation_clause_count task =
    boundaries task * steps task + (boundaries task - 1) * counted task (criteria task)
    + length (goods task) * length (bads task) * (2 * criteria task + 1)

abbrev pub separation_literal_count : Task → ℕ
separation_literal_count task =
    2 * boundaries task * steps task + 2 * (boundaries task - 1) * counted task (criteria task)
    + 5 * criteria task * length (goods task) * length (bads task)
