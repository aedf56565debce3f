use Rattle.std.specs.Vec.{vec_capacity, with_items}
use Rattle.std.proofs.lemmas.List.{with_items_is}
use Rattle.std.proofs.Common.{rules}
use Rattle.watch_core.proofs.TrailLemmas.{trail_is, undone_all}
use Rattle.watch_core.proofs.trail.Trail.undo_to.Goals as goal

pub invariant_of-self : goal.invariant_of-self
invariant_of-self g c = (undone_all g.L.Lit.table_place c.args.self.now c.self.inside.values.items c.clear_above-size.new.values (with_items c.self.inside.values c.clear_above-size.new.values).items c.self.inside.marks.items c.as_slice.result.now c.self.inside.order.items c.as_slice-2.result.now c.truncate.new.self.items (vec_capacity c.self.inside.order) (vec_capacity c.truncate.new.self) c.self.inside.taken c.min-self-inside.result c.clear_above-size.result c.self.inside.level c.args.level c.self.invariant c.self.view_is c.requires c.as_slice.ensures.value c.as_slice-2.ensures.value c.clear_above-size.ensures.few c.clear_above-size.ensures.kept c.clear_above-size.ensures.cut (with_items_is c.self.inside.values c.clear_above-size.new.values (search rules)) c.truncate.ensures.items (search rules) c.min-self-inside.ensures).0

pub returns-clause-value : goal.returns-clause-value
returns-clause-value g c = (undone_all g.L.Lit.table_place c.args.self.now c.self.inside.values.items c.clear_above-size.new.values (with_items c.self.inside.values c.clear_above-size.new.values).items c.self.inside.marks.items c.as_slice.result.now c.self.inside.order.items c.as_slice-2.result.now c.truncate.new.self.items (vec_capacity c.self.inside.order) (vec_capacity c.truncate.new.self) c.self.inside.taken c.min-self-inside.result c.clear_above-size.result c.self.inside.level c.args.level c.self.invariant c.self.view_is c.requires c.as_slice.ensures.value c.as_slice-2.ensures.value c.clear_above-size.ensures.few c.clear_above-size.ensures.kept c.clear_above-size.ensures.cut (with_items_is c.self.inside.values c.clear_above-size.new.values (search rules)) c.truncate.ensures.items (search rules) c.min-self-inside.ensures).1

pub returns-clause-kept : goal.returns-clause-kept
returns-clause-kept g c = trail_is g.L.Lit.table_place (with_items c.self.inside.values c.clear_above-size.new.values).items c.self.inside.marks.items c.truncate.new.self.items (vec_capacity c.truncate.new.self) c.min-self-inside.result c.args.level ((undone_all g.L.Lit.table_place c.args.self.now c.self.inside.values.items c.clear_above-size.new.values (with_items c.self.inside.values c.clear_above-size.new.values).items c.self.inside.marks.items c.as_slice.result.now c.self.inside.order.items c.as_slice-2.result.now c.truncate.new.self.items (vec_capacity c.self.inside.order) (vec_capacity c.truncate.new.self) c.self.inside.taken c.min-self-inside.result c.clear_above-size.result c.self.inside.level c.args.level c.self.invariant c.self.view_is c.requires c.as_slice.ensures.value c.as_slice-2.ensures.value c.clear_above-size.ensures.few c.clear_above-size.ensures.kept c.clear_above-size.ensures.cut (with_items_is c.self.inside.values c.clear_above-size.new.values (search rules)) c.truncate.ensures.items (search rules) c.min-self-inside.ensures).0)
