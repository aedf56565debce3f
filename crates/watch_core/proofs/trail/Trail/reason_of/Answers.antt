use Rattle.std.proofs.Common.{ap, ◌∙◌}
use Rattle.watch_core.specs.Trail.{Assignment}
use Rattle.watch_core.proofs.TrailLemmas.{unset_entry, unset, not_unset, mark_reads}
use Rattle.watch_core.proofs.trail.Trail.reason_of.Goals as goal

pub returns-clause-given : goal.returns-clause-given
returns-clause-given g c i d lt is = c.reason_numbered.ensures ∙ (mark_reads g.L.Lit.table_place c.self.inside.marks.items c.self.inside.order.items _ c.args.variable _ c.index.result.now i d (ap (λ (t : Assignment g.row.L.Denot). t.entries) c.self.view_is) (ap (λ (t : Assignment g.row.L.Denot). t.variables) c.self.view_is) c.index.ensures c.requires lt is).1

pub returns-then-is_none-clause-given : goal.returns-then-is_none-clause-given
returns-then-is_none-clause-given g c i d lt is = absurd (unset_entry g.L.Lit.table_place c.args.self.now.entries c.args.variable i d (unset _ _ _ c.value_at.ensures c.is_none.ensures c.if-is_none.true) lt is)

pub returns-clause-unassigned : goal.returns-clause-unassigned
returns-clause-unassigned g c e = absurd (not_unset _ _ _ c.value_at.ensures e c.is_none.ensures c.if-is_none.false)
