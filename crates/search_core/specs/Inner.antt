-- The variables of a formula count from 1, those inside the search from 0.
use Rattle.std.specs.Prelude.{ℕ, ◌+◌, List, map}

-- the literal of a formula that a literal inside the search stands for
abbrev pub outer : ℕ → ℕ
outer l = l + 2

abbrev pub outer_clauses : List (List ℕ) → List (List ℕ)
outer_clauses clauses = map (map outer) clauses
