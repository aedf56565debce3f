use Rattle.std.proofs.Common.{◌≡◌, ℕ, ◌<◌, ◌≤◌, true, get_or}
use Rattle.literals_core.specs.Truth.{is_false}
use Rattle.watch_core.specs.Trail.{places}
use Rattle.watch_core.proofs.trail.open_place.Given as goal

abbrev pub invariant-loop-j : goal.invariant-loop-j
invariant-loop-j g c = (j : ℕ) (l : g.row.L.Denot) → 2 ≤ j → j < c.j → is_false (places g.L.Lit.table_place c.trail.entries) (g.L.Lit.table_place (get_or c.clause j l)) ≡ true
