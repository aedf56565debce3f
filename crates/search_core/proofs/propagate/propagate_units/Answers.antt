use Rattle.std.proofs.Common.{ℕ, ap, refl}
use Rattle.watch_core.specs.Trail.{Assignment}
use Rattle.watch_core.specs.Places.{placed}
use Rattle.watch_core.proofs.ReadyLemmas.{rests_at_start}
use Rattle.search_core.specs.State.{place}
use Rattle.search_core.proofs.UnitLemmas.{built_first}
use Rattle.search_core.proofs.propagate.propagate_units.Goals as goal

pub loop-number-init : goal.loop-number-init
loop-number-init g c = record {
  built = built_first c.args.watched.now.clauses c.args.watched.now.trail c.args.watched.now.trail.variables c.requires.trail;
  kept = c.trail.ensures.kept;
  rest = rests_at_start place c.args.watched.now.trail (placed place c.args.watched.now.clauses) c.args.watched.now.trail.variables c.requires.trail;
  start = ap (λ (u : Assignment ℕ). u.level) c.requires.trail;
  count = refl;
  variables = refl;
}
