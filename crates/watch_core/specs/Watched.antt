-- Clauses with a trail.
use Rattle.std.specs.Prelude.{ℕ, ◌≤◌, false, List, length}
use Rattle.watch_core.specs.Places.{placed}
use Rattle.watch_core.specs.Trail.{Assignment}
use Rattle.watch_core.specs.Cover.{IsCovered}

-- the value of `Watched`
pub record Clauses (L : Type 0) : Type 0 where
  pub clauses : List (List L)
  pub trail : Assignment L

-- what the chains keep true
pub record IsHeld {L : Type 0} (at : L → ℕ) (clauses : List (List L)) (chains : List (List ℕ)) (room : ℕ)
    (t : Assignment L) : Type 0 where
  pub covers : IsCovered false at (placed at clauses) chains t
  pub fits : length clauses ≤ room
