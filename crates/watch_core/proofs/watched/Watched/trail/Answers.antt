use Rattle.std.proofs.Common.{subst}
use Rattle.watch_core.specs.Trail.{IsTrail}
use Rattle.watch_core.specs.Watched.{Clauses}
use Rattle.watch_core.proofs.watched.Watched.trail.Goals as goal

pub returns-clause-kept : goal.returns-clause-kept
returns-clause-kept g c = subst (λ (x : Clauses g.row.L.Denot). IsTrail g.L.Lit.table_place x.trail) c.self.view_is c.self.invariant.covers.trail
