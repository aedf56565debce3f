use Rattle.std.proofs.Common.{ap}
use Rattle.watch_core.specs.Trail.{Assignment}
use Rattle.watch_core.proofs.TrailLemmas.{mark_reads}
use Rattle.watch_core.proofs.trail.Trail.level_of.Goals as goal

pub returns : goal.returns
returns g c i d lt is = (mark_reads g.L.Lit.table_place c.self.inside.marks.items c.self.inside.order.items _ c.args.variable _ c.index.result.now i d (ap (λ (t : Assignment g.row.L.Denot). t.entries) c.self.view_is) (ap (λ (t : Assignment g.row.L.Denot). t.variables) c.self.view_is) c.index.ensures c.requires lt is).0
