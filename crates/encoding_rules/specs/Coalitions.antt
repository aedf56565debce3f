-- The coalition encoding: an unknown for each set of criteria, true if the set is sufficient (Belahcène and others
-- 2018). A set is a mask below 2^n for n criteria.
use Rattle.std.specs.Prelude.{ℕ, ◌+◌, ◌-◌, ◌*◌, ◌/◌, ◌%◌, ◌^◌, ◌==◌, Bool, List, [], ◌∷◌, ◌++◌, length, if◌then◌else◌}
use Rattle.literals_core.specs.Formula.{plus, minus}
use Rattle.encoding_rules.specs.Each.{each, listed}
use Rattle.encoding_rules.specs.Task.{Task, criteria, boundaries, goods, bads, good_at, bad_at}
use Rattle.encoding_rules.specs.Ranks.{rank}
use Rattle.encoding_rules.specs.Unknowns.{counted, accepted, accepted_count}
use Rattle.encoding_rules.specs.Shared.{better_clauses, lower_clauses}
use Rattle.encoding_rules.specs.Separation.{steps}

-- whether a set has a criterion
abbrev pub has : ℕ → ℕ → Bool
has set i = (set / 2 ^ i) % 2 == 1

-- the number of sets of criteria
unfoldable pub set_count : Task → ℕ
set_count task = 2 ^ criteria task

-- a set is sufficient
unfoldable pub sufficient : Task → ℕ → ℕ
sufficient task set = accepted_count task + 1 + set

-- the criteria that a set doesn't have
abbrev pub complement : Task → ℕ → ℕ
complement task set = set_count task - 1 - set

-- with a sufficient set, that with one criterion more is sufficient
abbrev pub larger_clause : Task → ℕ → ℕ → List ℕ
larger_clause task set i = minus (sufficient task set) ∷ plus (sufficient task (set + 2 ^ i)) ∷ []

abbrev pub larger_of : Task → ℕ → ℕ → List (List ℕ)
larger_of task set i = if has set i then [] else larger_clause task set i ∷ []

unfoldable pub larger_clauses : Task → List (List ℕ)
larger_clauses task = each (λ set. each (larger_of task set) (criteria task)) (set_count task)

-- a literal for each criterion of a set
abbrev pub members : (ℕ → ℕ) → ℕ → ℕ → List ℕ
members literal set n = each (λ i. if has set i then literal i ∷ [] else []) n

-- a set of which each criterion accepts a bad example, at the boundary above its category, isn't sufficient
abbrev pub bad_set_clause : Task → ℕ → ℕ → List ℕ
bad_set_clause task b set = let e = bad_at task b in
    members (λ i. minus (accepted task i e.category (rank task i e))) set (criteria task)
    ++ minus (sufficient task set) ∷ []

-- if no criterion of a set accepts a good example, at the boundary of its category, the other criteria are sufficient
abbrev pub good_set_clause : Task → ℕ → ℕ → List ℕ
good_set_clause task a set = let g = good_at task a in
    members (λ i. plus (accepted task i (g.category - 1) (rank task i g))) set (criteria task)
    ++ plus (sufficient task (complement task set)) ∷ []

unfoldable pub bad_set_clauses : Task → List (List ℕ)
bad_set_clauses task = each (λ b. listed (bad_set_clause task b) (set_count task)) (length (bads task))

unfoldable pub good_set_clauses : Task → List (List ℕ)
good_set_clauses task = each (λ a. listed (good_set_clause task a) (set_count task)) (length (goods task))

-- the formula: its number of variables, and its clauses
abbrev pub coalition_variables : Task → ℕ
coalition_variables task = accepted_count task + set_count task

abbrev pub coalition_clauses : Task → List (List ℕ)
coalition_clauses task =
    better_clauses task ++ (lower_clauses task
    ++ (larger_clauses task ++ (bad_set_clauses task ++ good_set_clauses task)))

-- the numbers of its clauses and of its literals
abbrev pub coalition_clause_count : Task → ℕ
coalition_clause_count task = let n = criteria task in
    boundaries task * steps task + (boundaries task - 1) * counted task n
    + n * 2 ^ (n - 1) + (length (goods task) + length (bads task)) * set_count task

abbrev pub coalition_literal_count : Task → ℕ
coalition_literal_count task = let n = criteria task in
    2 * boundaries task * steps task + 2 * (boundaries task - 1) * counted task n
    + n * set_count task + (length (goods task) + length (bads task)) * (n * 2 ^ (n - 1) + set_count task)
