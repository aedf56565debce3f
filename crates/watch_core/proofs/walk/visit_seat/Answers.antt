use Rattle.std.proofs.Common.{sym, refl, ◌∙◌}
use Rattle.watch_core.specs.Places.{placed}
use Rattle.watch_core.specs.Trail.{places}
use Rattle.watch_core.proofs.StepLemmas.{free_of}
use Rattle.watch_core.proofs.VisitLemmas.{other_seated, other_beside, visit_inside, visit_seated, visit_moved, visit_place, visit_false, visit_assigned}
use Rattle.watch_core.proofs.walk.visit_seat.Goals as goal

pub literal_of-other-requires : goal.literal_of-other-requires
literal_of-other-requires g c = other_seated (placed g.L.Lit.table_place c.args.arena.now) c.args.chains.now.chains c.args.seat c.other.result c.requires.going.covers.watches c.requires.seat c.other.ensures

pub is_true-requires : goal.is_true-requires
is_true-requires g c = (other_beside g.L.Lit.table_place (placed g.L.Lit.table_place c.args.arena.now) c.args.chains.now.chains c.args.trail.now c.args.seat c.other.result (g.L.Lit.table_place c.literal_of-other.result) c.requires.going c.requires.seat c.other.ensures c.literal_of-other.ensures).inside

pub returns-then-is_true-clause-outcome : goal.returns-then-is_true-clause-outcome
returns-then-is_true-clause-outcome g c = (refl, (g.L.Lit.table_place c.literal_of-other.result, (other_beside g.L.Lit.table_place (placed g.L.Lit.table_place c.args.arena.now) c.args.chains.now.chains c.args.trail.now c.args.seat c.other.result (g.L.Lit.table_place c.literal_of-other.result) c.requires.going c.requires.seat c.other.ensures c.literal_of-other.ensures).has, sym c.is_true.ensures ∙ c.if-is_true.true))

pub open_place-requires : goal.open_place-requires
open_place-requires g c = visit_inside g.L.Lit.table_place c.args.arena.now c.args.chains.now.chains c.args.trail.now c.args.seat c.clause-id.result c.literals-clause.result.now c.requires.going c.clause-id.ensures c.literals-clause.ensures.clause

pub move_seat-requires-clause-seated : goal.move_seat-requires-clause-seated
move_seat-requires-clause-seated g c = visit_seated (placed g.L.Lit.table_place c.args.arena.now) c.args.chains.now.chains c.args.seat c.requires.going.covers.watches c.requires.seat

pub move_seat-requires-clause-place : goal.move_seat-requires-clause-place
move_seat-requires-clause-place g c = visit_place g.L.Lit.table_place c.args.arena.now c.args.chains.now.chains c.args.trail.now c.args.seat c.clause-id.result c.in-Some.j c.literals-clause.result.now c.index-clause-j.result c.requires.going c.clause-id.ensures c.literals-clause.ensures.clause c.in-Some.ensures.found.1 c.index-clause-j.is

pub returns-in-Some-clause-going : goal.returns-in-Some-clause-going
returns-in-Some-clause-going g c = (visit_moved g.L.Lit.table_place c.args.arena.now c.swap.new.self c.args.chains.now.chains c.move_seat.new.self.chains c.args.trail.now c.args.seat c.clause-id.result c.side.result c.in-Some.j c.literals-clause.result.now c.index-clause-j.result c.requires.going c.requires.seat c.requires.waits c.clause-id.ensures c.side.ensures c.literals-clause.ensures.clause c.in-Some.ensures.found.0 c.in-Some.ensures.found.1 c.in-Some.ensures.found.2 c.index-clause-j.is c.swap.ensures c.move_seat.ensures.chains).0

pub returns-in-Some-clause-goes : goal.returns-in-Some-clause-goes
returns-in-Some-clause-goes g c = (visit_moved g.L.Lit.table_place c.args.arena.now c.swap.new.self c.args.chains.now.chains c.move_seat.new.self.chains c.args.trail.now c.args.seat c.clause-id.result c.side.result c.in-Some.j c.literals-clause.result.now c.index-clause-j.result c.requires.going c.requires.seat c.requires.waits c.clause-id.ensures c.side.ensures c.literals-clause.ensures.clause c.in-Some.ensures.found.0 c.in-Some.ensures.found.1 c.in-Some.ensures.found.2 c.index-clause-j.is c.swap.ensures c.move_seat.ensures.chains).1

pub returns-in-Some-clause-outcome : goal.returns-in-Some-clause-outcome
returns-in-Some-clause-outcome g c = (g.L.Lit.table_place c.index-clause-j.result, (visit_moved g.L.Lit.table_place c.args.arena.now c.swap.new.self c.args.chains.now.chains c.move_seat.new.self.chains c.args.trail.now c.args.seat c.clause-id.result c.side.result c.in-Some.j c.literals-clause.result.now c.index-clause-j.result c.requires.going c.requires.seat c.requires.waits c.clause-id.ensures c.side.ensures c.literals-clause.ensures.clause c.in-Some.ensures.found.0 c.in-Some.ensures.found.1 c.in-Some.ensures.found.2 c.index-clause-j.is c.swap.ensures c.move_seat.ensures.chains).2, c.move_seat.ensures.chains)

pub is_false-requires : goal.is_false-requires
is_false-requires g c = (other_beside g.L.Lit.table_place (placed g.L.Lit.table_place c.args.arena.now) c.args.chains.now.chains c.args.trail.now c.args.seat c.other.result (g.L.Lit.table_place c.literal_of-other.result) c.requires.going c.requires.seat c.other.ensures c.literal_of-other.ensures).inside

pub returns-then-is_false-clause-outcome : goal.returns-then-is_false-clause-outcome
returns-then-is_false-clause-outcome g c = visit_false g.L.Lit.table_place c.args.arena.now c.args.trail.now c.args.seat c.clause-id.result c.literals-clause.result.now c.literal_of-other.result c.requires.waits c.clause-id.ensures c.literals-clause.ensures.clause c.in_default.ensures.none (other_beside g.L.Lit.table_place (placed g.L.Lit.table_place c.args.arena.now) c.args.chains.now.chains c.args.trail.now c.args.seat c.other.result (g.L.Lit.table_place c.literal_of-other.result) c.requires.going c.requires.seat c.other.ensures c.literal_of-other.ensures).is (sym c.is_false.ensures ∙ c.if-is_false.true)

pub assign-requires-clause-place : goal.assign-requires-clause-place
assign-requires-clause-place g c = (other_beside g.L.Lit.table_place (placed g.L.Lit.table_place c.args.arena.now) c.args.chains.now.chains c.args.trail.now c.args.seat c.other.result (g.L.Lit.table_place c.literal_of-other.result) c.requires.going c.requires.seat c.other.ensures c.literal_of-other.ensures).inside

pub assign-requires-clause-free : goal.assign-requires-clause-free
assign-requires-clause-free g c = free_of (places g.L.Lit.table_place c.args.trail.now.entries) (g.L.Lit.table_place c.literal_of-other.result) (sym c.is_true.ensures ∙ c.if-is_true.false) (sym c.is_false.ensures ∙ c.if-is_false.false)

pub returns-clause-going : goal.returns-clause-going
returns-clause-going g c = (visit_assigned g.L.Lit.table_place c.args.arena.now c.args.chains.now.chains c.args.trail.now c.assign.new.self c.args.seat c.clause-id.result c.literals-clause.result.now c.literal_of-other.result c.requires.going c.requires.seat c.requires.waits c.clause-id.ensures c.literals-clause.ensures.clause c.in_default.ensures.none (other_beside g.L.Lit.table_place (placed g.L.Lit.table_place c.args.arena.now) c.args.chains.now.chains c.args.trail.now c.args.seat c.other.result (g.L.Lit.table_place c.literal_of-other.result) c.requires.going c.requires.seat c.other.ensures c.literal_of-other.ensures) (sym c.is_true.ensures ∙ c.if-is_true.false) c.assign.ensures.value c.assign.ensures.kept).0

pub returns-clause-goes : goal.returns-clause-goes
returns-clause-goes g c = (visit_assigned g.L.Lit.table_place c.args.arena.now c.args.chains.now.chains c.args.trail.now c.assign.new.self c.args.seat c.clause-id.result c.literals-clause.result.now c.literal_of-other.result c.requires.going c.requires.seat c.requires.waits c.clause-id.ensures c.literals-clause.ensures.clause c.in_default.ensures.none (other_beside g.L.Lit.table_place (placed g.L.Lit.table_place c.args.arena.now) c.args.chains.now.chains c.args.trail.now c.args.seat c.other.result (g.L.Lit.table_place c.literal_of-other.result) c.requires.going c.requires.seat c.other.ensures c.literal_of-other.ensures) (sym c.is_true.ensures ∙ c.if-is_true.false) c.assign.ensures.value c.assign.ensures.kept).1

pub returns-clause-outcome : goal.returns-clause-outcome
returns-clause-outcome g c = (refl, (visit_assigned g.L.Lit.table_place c.args.arena.now c.args.chains.now.chains c.args.trail.now c.assign.new.self c.args.seat c.clause-id.result c.literals-clause.result.now c.literal_of-other.result c.requires.going c.requires.seat c.requires.waits c.clause-id.ensures c.literals-clause.ensures.clause c.in_default.ensures.none (other_beside g.L.Lit.table_place (placed g.L.Lit.table_place c.args.arena.now) c.args.chains.now.chains c.args.trail.now c.args.seat c.other.result (g.L.Lit.table_place c.literal_of-other.result) c.requires.going c.requires.seat c.other.ensures c.literal_of-other.ensures) (sym c.is_true.ensures ∙ c.if-is_true.false) c.assign.ensures.value c.assign.ensures.kept).2)
