-- Clauses whose literals are of distinct variables.
use Rattle.std.specs.Prelude.{ℕ, ◌<◌, ◌≢◌, List, length, slice_index_or}
use Rattle.literals_core.specs.Literal.{variable_of}

-- no two literals are of one variable
abbrev pub HasDistinctVariables : List ℕ → Type 0
HasDistinctVariables literals =
    (i j : ℕ) → i < j → j < length literals
    → variable_of (slice_index_or literals i 0) ≢ variable_of (slice_index_or literals j 0)
