-- How chains lie in arrays: the first seat of each literal, and for each seat the next, the one before, its literal.
use Rattle.std.specs.Prelude.{ℕ, zero, suc, ◌≡◌, ◌+◌, ◌<◌, List, [], ◌∷◌, length, map, min, ◌*◌, Option, None, Some, Contains, slice_index_or, nat_lt, if◌then◌else◌, ◌⊎◌}
use Rattle.arena_core.specs.declared.links.Link.{Link}
use Rattle.arena_core.specs.declared.links.TheConstants.{NONE}
use Rattle.arena_core.specs.declared.seat.TheConstants.{MOST_SEATS}

-- the number that stands for no seat and no place
abbrev pub none : ℕ
none = NONE

-- the seats from one on, at most so many
abbrev pub walk : ℕ → List ℕ → ℕ → List ℕ
walk zero next seat = []
walk (suc fuel) next seat = if nat_lt seat (length next) then seat ∷ walk fuel next
    (slice_index_or next seat none) else []

abbrev pub walks : List ℕ → List ℕ → List (List ℕ)
walks heads next = map (λ h. walk (length next) next h) heads

-- a list of seats, linked both ways
pub record IsChain (next before owner : List ℕ) (place head : ℕ) (chain : List ℕ) : Type 0 where
  pub inside : (i : ℕ) → i < length chain → slice_index_or chain i none < length next
  pub owned : (i : ℕ) → i < length chain → slice_index_or owner (slice_index_or chain i none) none ≡ place
  pub first : head ≡ slice_index_or chain 0 none
  pub forward : (i : ℕ) → i < length chain
      → slice_index_or next (slice_index_or chain i none) none ≡ slice_index_or chain (i + 1) none
  pub start : 0 < length chain → slice_index_or before (slice_index_or chain 0 none) none ≡ none
  pub back : (i : ℕ) → i + 1 < length chain
      → slice_index_or before (slice_index_or chain (i + 1) none) none ≡ slice_index_or chain i none

-- the arrays hold these chains
pub record Holds (heads next before owner : List ℕ) (chains : List (List ℕ)) : Type 0 where
  pub before_size : length before ≡ length next
  pub owner_size : length owner ≡ length next
  pub few_seats : length next < none
  pub few_places : length heads < none
  pub count : length chains ≡ length heads
  pub chain : (p : ℕ) → p < length heads
      → IsChain next before owner p (slice_index_or heads p none) (slice_index_or chains p [])
  pub held : (s : ℕ) → s < length next
      → (slice_index_or owner s none ≡ none)
      ⊎ ((slice_index_or owner s none < length heads)
      × Contains (slice_index_or chains (slice_index_or owner s none) []) s)

-- the place of a literal, if any
abbrev pub place_in : {L : Type 0} → (L → ℕ) → Option L → ℕ
place_in at None = none
place_in at (Some literal) = at literal

abbrev pub nexts : {L : Type 0} → List (Link L) → List ℕ
nexts links = map (λ l. l.next) links

abbrev pub befores : {L : Type 0} → List (Link L) → List ℕ
befores links = map (λ l. l.before) links

-- the places of the literals of the seats
abbrev pub owners : {L : Type 0} → (L → ℕ) → List (Link L) → List ℕ
owners at links = map (λ l. place_in at l.owner) links

-- the chains that the arrays hold
abbrev pub chains_of : {L : Type 0} → List ℕ → List (Link L) → List (List ℕ)
chains_of heads links = walks heads (nexts links)

abbrev pub Keeps : {L : Type 0} → (L → ℕ) → List ℕ → List (Link L) → Type 0
Keeps at heads links = Holds heads (nexts links) (befores links) (owners at links) (chains_of heads links)

-- chains with room for the seats of so many clauses
pub record HasRoom {L : Type 0} (at : L → ℕ) (heads : List ℕ) (links : List (Link L)) (room : ℕ) : Type 0 where
  pub keeps : Keeps at heads links
  pub wide : length links ≡ min (2 * room) MOST_SEATS
