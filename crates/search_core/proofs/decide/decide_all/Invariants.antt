use Rattle.std.proofs.Common.{◌-◌, length}
use Rattle.watch_core.specs.Places.{placed}
use Rattle.watch_core.specs.Trail.{IsTrail}
use Rattle.watch_core.specs.Rest.{Outcome}
use Rattle.search_core.specs.State.{place, GoesOn}
use Rattle.search_core.proofs.decide.decide_all.Given as goal

abbrev pub invariant-loop-conflict : goal.invariant-loop-conflict
invariant-loop-conflict g l = record {
  outcome : Outcome place l.watched.trail (placed place l.watched.clauses) l.conflict;
  kept : IsTrail place l.watched.trail;
  goes : GoesOn l.fn.watched.clauses l.fn.watched.trail l.watched.clauses l.watched.trail;
}

abbrev pub decreases-loop-conflict : goal.decreases-loop-conflict
decreases-loop-conflict g l = l.watched.trail.variables - length l.watched.trail.entries
