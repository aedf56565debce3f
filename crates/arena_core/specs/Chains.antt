-- Chains of seats: a list of seats for each place of a literal. A seat is twice its clause's number, plus its side.
use Rattle.std.specs.Prelude.{ℕ, ◌≡◌, ◌+◌, ◌<◌, length, ◌==◌, not, List, ◌∷◌, [], Option, filter, map, slice_get, slice_index_or, slice_set, Contains}

-- the chains, and for how many clauses there is room
pub record Chained : Type 0 where
  pub chains : List (List ℕ)
  pub room : ℕ

-- the seats of a literal
abbrev pub chain_at : List (List ℕ) → ℕ → List ℕ
chain_at chains place = slice_index_or chains place []

-- a seat that goes first in a chain
abbrev pub put_first : List (List ℕ) → ℕ → ℕ → List (List ℕ)
put_first chains place seat = slice_set chains place (seat ∷ chain_at chains place)

-- the other seats of a chain, in their order
abbrev pub others : ℕ → List ℕ → List ℕ
others seat chain = filter (λ x. not (x == seat)) chain

-- a seat that leaves its chain
abbrev pub taken_out : List (List ℕ) → ℕ → List (List ℕ)
taken_out chains seat = map (others seat) chains

-- some chain has the seat
abbrev pub IsSeated : List (List ℕ) → ℕ → Type 0
IsSeated chains seat = (place : ℕ) × Contains (chain_at chains place) seat

-- each seat stands once, in one chain
abbrev pub AreApart : List (List ℕ) → Type 0
AreApart chains = (p i q j : ℕ) → i < length (chain_at chains p) → j < length (chain_at chains q)
    → slice_index_or (chain_at chains p) i 0 ≡ slice_index_or (chain_at chains q) j 0 → (p ≡ q) × (i ≡ j)

-- the seat after a seat in its chain, if any
abbrev pub IsNext : List (List ℕ) → ℕ → Option ℕ → Type 0
IsNext chains seat next = (place i : ℕ) → i < length (chain_at chains place)
    → slice_index_or (chain_at chains place) i 0 ≡ seat → next ≡ slice_get (chain_at chains place) (i + 1)
