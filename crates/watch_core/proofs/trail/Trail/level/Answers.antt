use Rattle.std.proofs.Common.{subst}
use Rattle.watch_core.specs.Trail.{Assignment, IsTrail}
use Rattle.watch_core.proofs.TrailLemmas.{trail_is}
use Rattle.watch_core.proofs.trail.Trail.level.Goals as goal

pub returns-clause-kept : goal.returns-clause-kept
returns-clause-kept g c = subst (λ (t : Assignment g.row.L.Denot). IsTrail g.L.Lit.table_place t) c.self.view_is (trail_is g.L.Lit.table_place c.self.inside.values.items c.self.inside.marks.items c.self.inside.order.items _ _ _ c.self.invariant)
