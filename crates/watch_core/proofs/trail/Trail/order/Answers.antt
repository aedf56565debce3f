use Rattle.std.proofs.Common.{ap}
use Rattle.watch_core.specs.Trail.{Assignment}
use Rattle.watch_core.proofs.TrailLemmas.{order_now}
use Rattle.watch_core.proofs.trail.Trail.order.Goals as goal

pub returns : goal.returns
returns g c = order_now g.L.Lit.table_place c.self.inside.marks.items c.self.inside.order.items _ _ (ap (λ (t : Assignment g.row.L.Denot). t.entries) c.self.view_is) c.as_slice.ensures.value
