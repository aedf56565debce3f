-- What a call of `propagate` changes.
use Rattle.std.specs.Prelude.{ℕ, ◌≡◌, ◌<◌, ◌≤◌, true, List, [], length, take, All, Some, Contains, slice_index_or, ◌⊎◌, IsPermutation}
use Rattle.literals_core.specs.Truth.{is_false}
use Rattle.watch_core.specs.Trail.{Assignment, Entry, places}

-- clauses change only the order of their literals
pub record AreReordered {A : Type 0} (clauses clauses' : List (List A)) : Type 0 where
  pub count : length clauses' ≡ length clauses
  pub same : (c : ℕ) → IsPermutation (slice_index_or clauses c []) (slice_index_or clauses' c [])

-- a literal that propagation assigned has a clause whose other literals were false before
pub record IsReason {L : Type 0} (at : L → ℕ) (t : Assignment L) (clauses : List (List ℕ)) (k id : ℕ) : Type 0 where
  pub known : id < length clauses
  pub has : (e : Entry L) → Contains (slice_index_or clauses id []) (at (slice_index_or t.entries k e).literal)
  pub false_before : (e : Entry L)
      → All (λ l. (l ≡ at (slice_index_or t.entries k e).literal)
      ⊎ (is_false (places at (take k t.entries)) l ≡ true)) (slice_index_or clauses id [])

-- what propagation does: old entries of the trail stay, what was taken in stays so, and each new entry has a reason
pub record Propagates {L : Type 0} (at : L → ℕ) (clauses : List (List ℕ)) (t : Assignment L) (clauses' : List (List ℕ))
    (t' : Assignment L) : Type 0 where
  pub order : AreReordered clauses clauses'
  pub level : t'.level ≡ t.level
  pub variables : t'.variables ≡ t.variables
  pub taken : t.taken ≤ t'.taken
  pub more : length t.entries ≤ length t'.entries
  pub kept : take (length t.entries) t'.entries ≡ t.entries
  pub current : (i : ℕ) (e : Entry L) → length t.entries ≤ i → i < length t'.entries
      → (slice_index_or t'.entries i e).level ≡ t.level
  pub reasons : (i : ℕ) (e : Entry L) → length t.entries ≤ i → i < length t'.entries
      → (id : ℕ) × ((slice_index_or t'.entries i e).reason ≡ Some id) × IsReason at t' clauses' i id
