-- The clauses over numbers of unknowns that are given.
use Rattle.std.specs.Prelude.{ℕ, ◌+◌, ◌-◌, ◌*◌, List, [], ◌∷◌, length, slice_index_or}
use Rattle.literals_core.specs.Formula.{plus, minus}
use Rattle.encoding_rules.specs.Each.{each, listed}

-- of one criterion at one boundary, whose unknowns begin with this one
abbrev pub better_row : ℕ → ℕ → List (List ℕ)
better_row first count = listed (λ k. minus (first + k) ∷ plus (first + k + 1) ∷ []) (count - 1)

-- of one criterion
abbrev pub better_rows : ℕ → ℕ → ℕ → List (List ℕ)
better_rows first count boundaries = each (λ b. better_row (first + b * count) count) boundaries

abbrev pub lower_row : ℕ → ℕ → List (List ℕ)
lower_row first count = listed (λ k. minus (first + count + k) ∷ plus (first + k) ∷ []) count

abbrev pub lower_rows : ℕ → ℕ → ℕ → List (List ℕ)
lower_rows first count boundaries = each (λ b. lower_row (first + b * count) count) (boundaries - 1)

-- of all criteria
abbrev pub better_of : ℕ → List ℕ → List ℕ → List (List ℕ)
better_of boundaries counts firsts =
    each (λ i. better_rows (slice_index_or firsts i 0) (slice_index_or counts i 0) boundaries) (length counts)

abbrev pub lower_of : ℕ → List ℕ → List ℕ → List (List ℕ)
lower_of boundaries counts firsts =
    each (λ i. lower_rows (slice_index_or firsts i 0) (slice_index_or counts i 0) boundaries) (length counts)
