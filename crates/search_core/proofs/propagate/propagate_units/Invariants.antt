use Rattle.std.proofs.Common.{◌≡◌, length}
use Rattle.watch_core.specs.Places.{placed}
use Rattle.watch_core.specs.Trail.{IsTrail}
use Rattle.watch_core.specs.Rest.{IsAtRest}
use Rattle.search_core.specs.State.{place, IsSound}
use Rattle.search_core.proofs.propagate.propagate_units.Given as goal

abbrev pub invariant-loop-number : goal.invariant-loop-number
invariant-loop-number g l = record {
  built : IsSound l.number l.fn.watched.clauses l.watched.clauses l.watched.trail;
  kept : IsTrail place l.watched.trail;
  rest : IsAtRest place l.watched.trail (placed place l.watched.clauses);
  start : l.watched.trail.level ≡ 0;
  count : length l.watched.clauses ≡ length l.fn.watched.clauses;
  variables : l.watched.trail.variables ≡ l.fn.watched.trail.variables;
}
