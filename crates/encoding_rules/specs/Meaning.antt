-- What values of the unknowns say.
use Rattle.std.specs.Prelude.{◌≡◌, ℕ, ◌+◌, ◌-◌, ◌<◌, Bool, true, false, Contains}
use Rattle.sorting_rule.specs.Examples.{Example}
use Rattle.encoding_rules.specs.Task.{Task, criteria, boundaries, goods, bads}
use Rattle.encoding_rules.specs.Ranks.{count_at, rank}
use Rattle.encoding_rules.specs.Unknowns.{accepted}

-- with a grade each better one is accepted, and at a boundary what is accepted above it
pub record IsNested (task : Task) (values : ℕ → Bool) : Type 0 where
  pub better : (i b k : ℕ) → i < criteria task → b < boundaries task → k + 1 < count_at task i
      → values (accepted task i b k) ≡ true → values (accepted task i b (k + 1)) ≡ true
  pub lower : (i b k : ℕ) → i < criteria task → b + 1 < boundaries task → k < count_at task i
      → values (accepted task i (b + 1) k) ≡ true → values (accepted task i b k) ≡ true

-- whether the example's grade on a criterion is accepted at the boundary at a place
abbrev pub accepts_at : Task → (ℕ → Bool) → ℕ → ℕ → Example → Bool
accepts_at task values i b e = values (accepted task i b (rank task i e))

-- what a good example has at its boundary, a bad one has not wholly at the boundary above its category
abbrev pub SetsApart : Task → (ℕ → Bool) → Type 0
SetsApart task values = (g e : Example) → Contains (goods task) g → Contains (bads task) e
    → (i : ℕ) × (i < criteria task) × (accepts_at task values i (g.category - 1) g ≡ true)
    × (accepts_at task values i e.category e ≡ false)
