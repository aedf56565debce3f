-- What a new clause must be, and its standing.
use Rattle.std.specs.Prelude.{ℕ, ◌≡◌, ◌+◌, ◌*◌, ◌<◌, ◌≤◌, true, false, List, [], ◌∷◌, length, All, slice_index_or, ◌⊎◌, if◌then◌else◌}
use Rattle.arena_core.specs.Chains.{put_first}
use Rattle.literals_core.specs.Literal.{negation}
use Rattle.literals_core.specs.Truth.{is_true, is_false, open_literals}
use Rattle.literals_core.specs.DistinctVariables.{HasDistinctVariables}
use Rattle.watch_core.specs.Trail.{Assignment, Entry, places}
use Rattle.watch_core.specs.declared.added.Standing.{Standing}
use Rattle.watch_core.specs.declared.added.Standing.TheVariants.{Free, Unit, False}

-- every literal is false; or one is neither true nor false, and all others are false; or neither
abbrev pub standing_open : List ℕ → List ℕ → Standing
standing_open set [] = False
standing_open set (o ∷ []) = if is_true set o then Free else Unit
standing_open set (o ∷ p ∷ ls) = Free

-- the standing of a clause, by its literals that are not false
abbrev pub standing_of : List ℕ → List ℕ → Standing
standing_of set clause = standing_open set (open_literals set clause)

-- the level at which a literal became false is at most that of another
abbrev pub NotAfter : {L : Type 0} → (L → ℕ) → Assignment L → ℕ → ℕ → Type 0
NotAfter {L} at t l m =
    (a b : ℕ) (d : Entry L) → a < length t.entries → b < length t.entries
    → at (slice_index_or t.entries a d).literal ≡ negation l → at (slice_index_or t.entries b d).literal ≡ negation m
    → (slice_index_or t.entries a d).level ≤ (slice_index_or t.entries b d).level

-- the conditions on the literals of a new clause
pub record CanAdd {L : Type 0} (at : L → ℕ) (t : Assignment L) (c : List ℕ) : Type 0 where
  pub inside : All (λ l. l < 2 * t.variables) c
  pub apart : HasDistinctVariables c
  pub first : 2 ≤ length c → is_false (places at t.entries) (slice_index_or c 0 0) ≡ false
  pub second :
      2 ≤ length c
      → (is_false (places at t.entries) (slice_index_or c 1 0) ≡ false)
      ⊎ ((i : ℕ) → 1 ≤ i → i < length c
      → (is_false (places at t.entries) (slice_index_or c i 0) ≡ true)
      × NotAfter at t (slice_index_or c i 0) (slice_index_or c 1 0))

-- both seats of a clause go into the chains of its first two literals
abbrev pub both_put : List (List ℕ) → ℕ → List ℕ → List (List ℕ)
both_put chains n [] = chains
both_put chains n (x ∷ []) = chains
both_put chains n (x ∷ y ∷ ls) = put_first (put_first chains x (2 * n)) y (2 * n + 1)
