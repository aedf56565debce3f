-- The clauses of the coalition encoding over numbers of unknowns that are given.
use Rattle.std.specs.Prelude.{ℕ, ◌+◌, ◌-◌, ◌^◌, ◌≤◌, List, [], ◌∷◌, ◌++◌, length, map, slice_index_or, if◌then◌else◌}
use Rattle.chain_core.specs.declared.literal.TheConstants.{GREATEST_VARIABLE}
use Rattle.literals_core.specs.Formula.{plus, minus}
use Rattle.encoding_rules.specs.Each.{each, listed}
use Rattle.encoding_rules.specs.Coalitions.{has}

abbrev pub IsUnknown : ℕ → Type 0
IsUnknown variable = (1 ≤ variable) × (variable ≤ GREATEST_VARIABLE)

-- of a set and a criterion; the unknowns of the sets begin with this one
abbrev pub larger_at : ℕ → ℕ → ℕ → List (List ℕ)
larger_at first set i = if has set i then [] else (minus (first + set) ∷ plus (first + (set + 2 ^ i)) ∷ []) ∷ []

abbrev pub larger_of_set : ℕ → ℕ → ℕ → List (List ℕ)
larger_of_set first n set = each (larger_at first set) n

abbrev pub larger_of_sets : ℕ → ℕ → List (List ℕ)
larger_of_sets first n = each (larger_of_set first n) (2 ^ n)

-- the literals of a set's criteria, and then a last one
abbrev pub set_clause : List ℕ → ℕ → ℕ → List ℕ
set_clause literals set last =
    each (λ i. if has set i then slice_index_or literals i 0 ∷ [] else []) (length literals) ++ last ∷ []

-- of a bad example, by its literals, with each set
abbrev pub bad_clauses : ℕ → List ℕ → List (List ℕ)
bad_clauses first literals = listed (λ set. set_clause literals set (minus (first + set))) (2 ^ length literals)

-- of a good example
abbrev pub good_clauses : ℕ → List ℕ → List (List ℕ)
good_clauses first literals =
    listed (λ set. set_clause literals set (plus (first + (2 ^ length literals - 1 - set)))) (2 ^ length literals)

-- of examples, by the rows of their unknowns
abbrev pub bads_clauses : ℕ → List (List ℕ) → List (List ℕ)
bads_clauses first rows = each (λ b. bad_clauses first (map minus (slice_index_or rows b []))) (length rows)

abbrev pub goods_clauses : ℕ → List (List ℕ) → List (List ℕ)
goods_clauses first rows = each (λ a. good_clauses first (map plus (slice_index_or rows a []))) (length rows)
