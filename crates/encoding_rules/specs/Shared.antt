-- The clauses that both encodings begin with: what is accepted.
use Rattle.std.specs.Prelude.{ℕ, ◌+◌, ◌-◌, List, [], ◌∷◌}
use Rattle.encoding_rules.specs.Each.{each, listed}
use Rattle.encoding_rules.specs.Task.{Task, criteria, boundaries}
use Rattle.encoding_rules.specs.Ranks.{count_at}
use Rattle.literals_core.specs.Formula.{plus, minus}
use Rattle.encoding_rules.specs.Unknowns.{accepted}

-- with a grade, the next better one is accepted
abbrev pub better_clause : Task → ℕ → ℕ → ℕ → List ℕ
better_clause task i b k = minus (accepted task i b k) ∷ plus (accepted task i b (k + 1)) ∷ []

-- what is accepted at a boundary is accepted at the one below
abbrev pub lower_clause : Task → ℕ → ℕ → ℕ → List ℕ
lower_clause task i b k = minus (accepted task i (b + 1) k) ∷ plus (accepted task i b k) ∷ []

unfoldable pub better_clauses : Task → List (List ℕ)
better_clauses task =
    each (λ i. each (λ b. listed (better_clause task i b) (count_at task i - 1)) (boundaries task)) (criteria task)

unfoldable pub lower_clauses : Task → List (List ℕ)
lower_clauses task =
    each (λ i. each (λ b. listed (lower_clause task i b) (count_at task i)) (boundaries task - 1)) (criteria task)
