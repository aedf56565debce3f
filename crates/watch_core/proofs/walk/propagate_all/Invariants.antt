use Rattle.std.proofs.Common.{◌≡◌, ◌+◌, ◌-◌, ◌≤◌, take, drop}
use Rattle.watch_core.specs.Looks.{false_occurrences}
use Rattle.watch_core.specs.Trail.{places}
use Rattle.watch_core.specs.Places.{placed}
use Rattle.watch_core.specs.Cover.{IsPropagating}
use Rattle.watch_core.specs.Propagates.{Propagates}
use Rattle.watch_core.proofs.walk.propagate_all.Given as goal

abbrev pub invariant-loop-literal : goal.invariant-loop-literal
invariant-loop-literal g l = record {
  going : IsPropagating g.L.Lit.table_place (placed g.L.Lit.table_place l.arena) l.chains.chains l.trail;
  goes : Propagates g.L.Lit.table_place (placed g.L.Lit.table_place l.initial.arena) l.initial.trail (placed g.L.Lit.table_place l.arena) l.trail;
  room : l.chains.room ≡ l.initial.chains.room;
  cost : l.looks ≤ l.initial.looks + false_occurrences (placed g.L.Lit.table_place l.initial.arena) (places g.L.Lit.table_place (drop l.initial.trail.taken (take l.trail.taken l.trail.entries)));
}

abbrev pub decreases-loop-literal : goal.decreases-loop-literal
decreases-loop-literal g l = l.trail.variables - l.trail.taken
