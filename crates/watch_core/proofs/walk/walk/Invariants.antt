use Rattle.std.proofs.Common.{◌≡◌, ℕ, ◌+◌, true, length, List}
use Rattle.arena_core.specs.Chains.{chain_at}
use Rattle.literals_core.specs.Truth.{is_false}
use Rattle.watch_core.specs.Places.{placed}
use Rattle.watch_core.specs.Trail.{places, waiting}
use Rattle.watch_core.specs.Cover.{IsPropagating}
use Rattle.watch_core.specs.Propagates.{Propagates}
use Rattle.watch_core.proofs.StepLemmas.{left_of, IsWalking}
use Rattle.watch_core.proofs.walk.walk.Given as goal

abbrev pub invariant-loop-current : goal.invariant-loop-current
invariant-loop-current g l = record {
  going : IsPropagating g.L.Lit.table_place (placed g.L.Lit.table_place l.arena) l.chains.chains l.trail;
  goes : Propagates g.L.Lit.table_place (placed g.L.Lit.table_place l.initial.arena) l.initial.trail (placed g.L.Lit.table_place l.arena) l.trail;
  room : l.chains.room ≡ l.initial.chains.room;
  taken : l.trail.taken ≡ l.initial.trail.taken;
  waits : is_false (places g.L.Lit.table_place (waiting l.trail)) (g.L.Lit.table_place l.fn.literal) ≡ true;
  walk : (done : List ℕ) × (rest : List ℕ) × IsWalking (places g.L.Lit.table_place l.trail.entries) (placed g.L.Lit.table_place l.arena) (chain_at l.chains.chains (g.L.Lit.table_place l.fn.literal)) l.current done rest (l.initial.looks + length (chain_at l.initial.chains.chains (g.L.Lit.table_place l.fn.literal))) l.looks;
}

abbrev pub decreases-loop-current : goal.decreases-loop-current
decreases-loop-current g l = left_of (chain_at l.chains.chains (g.L.Lit.table_place l.fn.literal)) l.current
