use Rattle.std.proofs.Common.{ap, refl}
use Rattle.watch_core.specs.Trail.{Assignment}
use Rattle.watch_core.proofs.AssignLemmas.{value_true, value_false, value_unset}
use Rattle.watch_core.proofs.trail.Trail.value_at.Goals as goal

pub returns-then-value-eq-TRUE : goal.returns-then-value-eq-TRUE
returns-then-value-eq-TRUE g c = value_true g.L.Lit.table_place c.self.inside.values.items c.self.inside.marks.items _ _ _ c.args.place _ c.index-value.result.now _ _ c.self.invariant.kept (ap (λ (t : Assignment g.row.L.Denot). t.entries) c.self.view_is) (ap (λ (t : Assignment g.row.L.Denot). t.variables) c.self.view_is) refl c.requires c.index-value.ensures c.if-value-eq-TRUE.true

pub returns-then-value-eq-FALSE : goal.returns-then-value-eq-FALSE
returns-then-value-eq-FALSE g c = value_false g.L.Lit.table_place c.self.inside.values.items c.self.inside.marks.items _ _ _ c.args.place _ c.index-value.result.now _ _ c.self.invariant.kept (ap (λ (t : Assignment g.row.L.Denot). t.entries) c.self.view_is) (ap (λ (t : Assignment g.row.L.Denot). t.variables) c.self.view_is) refl c.requires c.index-value.ensures c.if-value-eq-FALSE.true

pub returns-else-value-eq-FALSE : goal.returns-else-value-eq-FALSE
returns-else-value-eq-FALSE g c = value_unset g.L.Lit.table_place c.self.inside.values.items c.self.inside.marks.items _ _ _ c.args.place _ c.index-value.result.now _ _ c.self.invariant.kept (ap (λ (t : Assignment g.row.L.Denot). t.entries) c.self.view_is) (ap (λ (t : Assignment g.row.L.Denot). t.variables) c.self.view_is) refl c.requires c.index-value.ensures c.if-value-eq-TRUE.false c.if-value-eq-FALSE.false
