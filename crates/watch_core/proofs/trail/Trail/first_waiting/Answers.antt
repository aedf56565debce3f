use Rattle.std.proofs.Common.{ap, rules}
use Rattle.watch_core.specs.Trail.{Assignment}
use Rattle.watch_core.proofs.TrailLemmas.{waiting_first}
use Rattle.watch_core.proofs.trail.Trail.first_waiting.Goals as goal

pub returns-then-self-len : goal.returns-then-self-len
returns-then-self-len g c = waiting_first g.L.Lit.table_place c.self.inside.marks.items c.self.inside.order.items c.self.inside.taken c.args.self.now c.index.result.now (ap (λ (t : Assignment g.row.L.Denot). t.entries) c.self.view_is) (ap (λ (t : Assignment g.row.L.Denot). t.taken) c.self.view_is) (search rules) c.index.ensures
