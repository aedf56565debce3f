use Rattle.std.proofs.Common.{ap, refl, ◌∙◌, ◌≡◌, rules}
use Rattle.literals_core.specs.Literal.{negation}
use Rattle.watch_core.specs.Trail.{Assignment}
use Rattle.watch_core.proofs.AssignLemmas.{course_assigned, course_room, negation_is, entered_view}
use Rattle.watch_core.proofs.TrailLemmas.{keeps_entered, trail_is}
use Rattle.std.proofs.lemmas.List.{length-set}
use Rattle.watch_core.proofs.trail.Trail.enter.Goals as goal

pub unwrap-requires : goal.unwrap-requires
unwrap-requires g c =
    let room = course_room g.L.Lit.table_place c.self.inside.values.items c.self.inside.marks.items c.self.inside.order.items _ _ _ c.args.literal _ c.self.invariant.kept (ap (λ (t : Assignment g.row.L.Denot). t.entries) c.self.view_is) (ap (λ (t : Assignment g.row.L.Denot). t.variables) c.self.view_is) c.requires.place c.requires.free in
    c.push.ensures.succeeds (search rules)

pub invariant_of-self : goal.invariant_of-self
invariant_of-self g c =
    let away = negation_is (g.L.Lit.table_place c.args.literal) _ _ _ (g.met.L.Lit.two_places c.args.literal) (g.met.L.Lit.two_places (g.L.Lit.opposite c.args.literal)) (g.met.L.Lit.same_variable c.args.literal) (λ e. g.met.L.Lit.differs c.args.literal (g.met.L.Lit.by_place _ _ e)) in
    let at : c.place-opposite.result ≡ negation (g.L.Lit.table_place c.args.literal) = c.place-opposite.ensures ∙ ap g.L.Lit.table_place c.negation.ensures ∙ away in
    keeps_entered g.L.Lit.table_place c.self.inside.values.items c.self.inside.marks.items c.self.inside.order.items c.push.new.self.items _ _ _ c.place-place.result c.place-opposite.result _ c.args.self.now.level c.self.inside.level c.args.level c.args.literal (record { level = c.args.level; reason = c.args.reason }) _ c.self.invariant (ap (λ (t : Assignment g.row.L.Denot). t.entries) c.self.view_is) (ap (λ (t : Assignment g.row.L.Denot). t.variables) c.self.view_is) c.place-place.ensures c.requires.place at c.requires.free (search rules) c.push.ensures.capacity (ap (λ (t : Assignment g.row.L.Denot). t.level) c.self.view_is) c.requires.level refl c.requires.reason

pub returns-clause-value : goal.returns-clause-value
returns-clause-value g c =
    let away = negation_is (g.L.Lit.table_place c.args.literal) _ _ _ (g.met.L.Lit.two_places c.args.literal) (g.met.L.Lit.two_places (g.L.Lit.opposite c.args.literal)) (g.met.L.Lit.same_variable c.args.literal) (λ e. g.met.L.Lit.differs c.args.literal (g.met.L.Lit.by_place _ _ e)) in
    let at : c.place-opposite.result ≡ negation (g.L.Lit.table_place c.args.literal) = c.place-opposite.ensures ∙ ap g.L.Lit.table_place c.negation.ensures ∙ away in
    let done = (course_assigned g.L.Lit.table_place c.self.inside.values.items c.self.inside.marks.items c.self.inside.order.items c.push.new.self.items _ _ c.self.inside.taken c.place-place.result c.place-opposite.result _ c.args.literal (record { level = c.args.level; reason = c.args.reason }) _ c.self.invariant.kept (ap (λ (t : Assignment g.row.L.Denot). t.entries) c.self.view_is) (ap (λ (t : Assignment g.row.L.Denot). t.variables) c.self.view_is) c.place-place.ensures c.requires.place at c.requires.free (search rules) c.push.ensures.capacity).1 in
    entered_view c.args.self.now _ _ _ _ c.args.literal _ done (ap (λ (t : Assignment g.row.L.Denot). t.taken) c.self.view_is) (length-set c.self.inside.marks.items _ _ ∙ ap (λ (t : Assignment g.row.L.Denot). t.variables) c.self.view_is)

pub returns-clause-kept : goal.returns-clause-kept
returns-clause-kept g c =
    let away = negation_is (g.L.Lit.table_place c.args.literal) _ _ _ (g.met.L.Lit.two_places c.args.literal) (g.met.L.Lit.two_places (g.L.Lit.opposite c.args.literal)) (g.met.L.Lit.same_variable c.args.literal) (λ e. g.met.L.Lit.differs c.args.literal (g.met.L.Lit.by_place _ _ e)) in
    let at : c.place-opposite.result ≡ negation (g.L.Lit.table_place c.args.literal) = c.place-opposite.ensures ∙ ap g.L.Lit.table_place c.negation.ensures ∙ away in
    trail_is g.L.Lit.table_place _ _ c.push.new.self.items _ c.self.inside.taken c.args.level (keeps_entered g.L.Lit.table_place c.self.inside.values.items c.self.inside.marks.items c.self.inside.order.items c.push.new.self.items _ _ _ c.place-place.result c.place-opposite.result _ c.args.self.now.level c.self.inside.level c.args.level c.args.literal (record { level = c.args.level; reason = c.args.reason }) _ c.self.invariant (ap (λ (t : Assignment g.row.L.Denot). t.entries) c.self.view_is) (ap (λ (t : Assignment g.row.L.Denot). t.variables) c.self.view_is) c.place-place.ensures c.requires.place at c.requires.free (search rules) c.push.ensures.capacity (ap (λ (t : Assignment g.row.L.Denot). t.level) c.self.view_is) c.requires.level refl c.requires.reason)
