-- The clauses over numbers of unknowns that are given.
use Rattle.std.specs.Prelude.{ℕ, ◌+◌, ◌*◌, List, [], ◌∷◌, ◌++◌, length, slice_index_or}
use Rattle.literals_core.specs.Formula.{plus, minus}
use Rattle.encoding_rules.specs.Each.{each, listed}

-- of a pair, whose unknowns begin with this one, with what has to be accepted and what not
abbrev pub both_of : ℕ → List ℕ → List ℕ → ℕ → List (List ℕ)
both_of first good bad i =
    (minus (first + i) ∷ plus (slice_index_or good i 0) ∷ [])
    ∷ (minus (first + i) ∷ minus (slice_index_or bad i 0) ∷ []) ∷ []

abbrev pub some_of : ℕ → ℕ → List ℕ
some_of first n = listed (λ i. plus (first + i)) n

abbrev pub pair_of : ℕ → List ℕ → List ℕ → List (List ℕ)
pair_of first good bad = each (both_of first good bad) (length good) ++ some_of first (length good) ∷ []

-- of a good example with each bad one
abbrev pub pairs_of_good : ℕ → ℕ → List ℕ → List (List ℕ) → List (List ℕ)
pairs_of_good first n good bads = each (λ b. pair_of (first + b * n) good (slice_index_or bads b [])) (length bads)

abbrev pub pairs_of : ℕ → ℕ → List (List ℕ) → List (List ℕ) → List (List ℕ)
pairs_of first n goods bads =
    each (λ a. pairs_of_good (first + a * (length bads * n)) n (slice_index_or goods a []) bads) (length goods)
