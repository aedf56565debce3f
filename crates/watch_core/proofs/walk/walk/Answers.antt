use Rattle.std.proofs.Common.{ap, refl, ◌∙◌, [], arith}
use Rattle.literals_core.specs.Literal.{negation}
use Rattle.literals_core.specs.Truth.{is_false}
use Rattle.watch_core.specs.Places.{placed}
use Rattle.watch_core.specs.Trail.{places, waiting}
use Rattle.arena_core.specs.Chains.{chain_at}
use Rattle.watch_core.proofs.GoingLemmas.{goes_same, goes_trans}
use Rattle.watch_core.proofs.StepLemmas.{left_of}
use Rattle.watch_core.proofs.VisitLemmas.{false_at, walk_turn, walk_in, walk_ends, waits_goes}
use Rattle.watch_core.proofs.walk.walk.Goals as goal

pub loop-current-init : goal.loop-current-init
loop-current-init g c = record { going = c.requires.going; goes = goes_same g.L.Lit.table_place (placed g.L.Lit.table_place c.args.arena.now) c.args.trail.now; room = refl; taken = refl; waits = c.requires.waits; walk = ([], chain_at c.args.chains.now.chains (g.L.Lit.table_place c.args.literal), record { split = refl; head = c.first-current.ensures.value; held = λ s h. absurd (omega (arith, h.1)); cost = omega arith }) }

pub next-current-requires : goal.next-current-requires
next-current-requires g c = ((g.L.Lit.table_place c.args.literal), walk_in (places g.L.Lit.table_place c.loop-current.trail.entries) (placed g.L.Lit.table_place c.loop-current.arena) (chain_at c.loop-current.chains.chains (g.L.Lit.table_place c.args.literal)) c.loop-current.current _ c.loop-current.looks c.in-Some.seat c.loop-current.invariant.walk c.in-Some.is)

pub visit_seat-requires-clause-seat : goal.visit_seat-requires-clause-seat
visit_seat-requires-clause-seat g c = record { known = (c.loop-current.invariant.going.covers.watches.seats (g.L.Lit.table_place c.args.literal) c.in-Some.seat (walk_in (places g.L.Lit.table_place c.loop-current.trail.entries) (placed g.L.Lit.table_place c.loop-current.arena) (chain_at c.loop-current.chains.chains (g.L.Lit.table_place c.args.literal)) c.loop-current.current _ c.loop-current.looks c.in-Some.seat c.loop-current.invariant.walk c.in-Some.is)).known; long = (c.loop-current.invariant.going.covers.watches.seats (g.L.Lit.table_place c.args.literal) c.in-Some.seat (walk_in (places g.L.Lit.table_place c.loop-current.trail.entries) (placed g.L.Lit.table_place c.loop-current.arena) (chain_at c.loop-current.chains.chains (g.L.Lit.table_place c.args.literal)) c.loop-current.current _ c.loop-current.looks c.in-Some.seat c.loop-current.invariant.walk c.in-Some.is)).long }

pub visit_seat-requires-clause-waits : goal.visit_seat-requires-clause-waits
visit_seat-requires-clause-waits g c = ap (is_false (places g.L.Lit.table_place (waiting c.loop-current.trail))) (c.loop-current.invariant.going.covers.watches.seats (g.L.Lit.table_place c.args.literal) c.in-Some.seat (walk_in (places g.L.Lit.table_place c.loop-current.trail.entries) (placed g.L.Lit.table_place c.loop-current.arena) (chain_at c.loop-current.chains.chains (g.L.Lit.table_place c.args.literal)) c.loop-current.current _ c.loop-current.looks c.in-Some.seat c.loop-current.invariant.walk c.in-Some.is)).at ∙ c.loop-current.invariant.waits

pub returns-in-False-clause-goes : goal.returns-in-False-clause-goes
returns-in-False-clause-goes g c = goes_trans g.L.Lit.table_place (placed g.L.Lit.table_place c.args.arena.now) (placed g.L.Lit.table_place c.loop-current.arena) (placed g.L.Lit.table_place c.visit_seat.new.arena) c.args.trail.now c.loop-current.trail c.visit_seat.new.trail c.loop-current.invariant.goes c.visit_seat.ensures.goes

pub returns-in-False-clause-some : goal.returns-in-False-clause-some
returns-in-False-clause-some g c =
    let w = c.loop-current.invariant.going.covers.watches.seats (g.L.Lit.table_place c.args.literal) c.in-Some.seat (walk_in (places g.L.Lit.table_place c.loop-current.trail.entries) (placed g.L.Lit.table_place c.loop-current.arena) (chain_at c.loop-current.chains.chains (g.L.Lit.table_place c.args.literal)) c.loop-current.current _ c.loop-current.looks c.in-Some.seat c.loop-current.invariant.walk c.in-Some.is) in
    false_at (places g.L.Lit.table_place c.visit_seat.new.trail.entries) (placed g.L.Lit.table_place c.loop-current.arena) (placed g.L.Lit.table_place c.visit_seat.new.arena) c.in-Some.seat c.clause.result c.clause.ensures w.known w.long c.visit_seat.ensures.goes.order c.in-False.ensures.outcome

pub loop-current-preserved : goal.loop-current-preserved
loop-current-preserved g c = record {
  going = c.visit_seat.ensures.going;
  goes = goes_trans g.L.Lit.table_place (placed g.L.Lit.table_place c.args.arena.now) (placed g.L.Lit.table_place c.loop-current.arena) (placed g.L.Lit.table_place c.visit_seat.new.arena) c.args.trail.now c.loop-current.trail c.visit_seat.new.trail c.loop-current.invariant.goes c.visit_seat.ensures.goes;
  room = c.visit_seat.ensures.room ∙ c.loop-current.invariant.room;
  taken = c.visit_seat.ensures.taken ∙ c.loop-current.invariant.taken;
  waits = waits_goes g.L.Lit.table_place (placed g.L.Lit.table_place c.loop-current.arena) (placed g.L.Lit.table_place c.visit_seat.new.arena) c.loop-current.trail c.visit_seat.new.trail (negation (g.L.Lit.table_place c.args.literal)) c.visit_seat.ensures.goes c.visit_seat.ensures.taken c.loop-current.invariant.waits;
  walk = (let w = walk_turn g.L.Lit.table_place (placed g.L.Lit.table_place c.loop-current.arena) (placed g.L.Lit.table_place c.visit_seat.new.arena) c.loop-current.chains.chains c.visit_seat.new.chains.chains c.loop-current.trail c.visit_seat.new.trail (g.L.Lit.table_place c.args.literal) c.in-Some.seat c.loop-current.current c.next-current.result _ c.loop-current.looks c.visit_seat.new.looks c.visit_seat.result c.next-current.ensures.apart c.loop-current.invariant.walk c.in-Some.is (c.next-current.ensures.value (g.L.Lit.table_place c.args.literal)) c.visit_seat.ensures.goes (c.loop-current.invariant.going.covers.watches.seats (g.L.Lit.table_place c.args.literal) c.in-Some.seat (walk_in (places g.L.Lit.table_place c.loop-current.trail.entries) (placed g.L.Lit.table_place c.loop-current.arena) (chain_at c.loop-current.chains.chains (g.L.Lit.table_place c.args.literal)) c.loop-current.current _ c.loop-current.looks c.in-Some.seat c.loop-current.invariant.walk c.in-Some.is)).at c.visit_seat.ensures.look c.visit_seat.ensures.outcome c.in_default-visit_seat.not-False in (w.0, w.1, w.2));
}

pub returns-clause-none : goal.returns-clause-none
returns-clause-none g c = walk_ends (places g.L.Lit.table_place c.loop-current.trail.entries) (placed g.L.Lit.table_place c.loop-current.arena) c.loop-current.chains.chains (g.L.Lit.table_place c.args.literal) c.loop-current.current _ c.loop-current.looks c.loop-current.invariant.going.covers.watches c.loop-current.invariant.walk c.in_default.is

pub loop-current-smaller : goal.loop-current-smaller
loop-current-smaller g c = (let w = walk_turn g.L.Lit.table_place (placed g.L.Lit.table_place c.loop-current.arena) (placed g.L.Lit.table_place c.visit_seat.new.arena) c.loop-current.chains.chains c.visit_seat.new.chains.chains c.loop-current.trail c.visit_seat.new.trail (g.L.Lit.table_place c.args.literal) c.in-Some.seat c.loop-current.current c.next-current.result _ c.loop-current.looks c.visit_seat.new.looks c.visit_seat.result c.next-current.ensures.apart c.loop-current.invariant.walk c.in-Some.is (c.next-current.ensures.value (g.L.Lit.table_place c.args.literal)) c.visit_seat.ensures.goes (c.loop-current.invariant.going.covers.watches.seats (g.L.Lit.table_place c.args.literal) c.in-Some.seat (walk_in (places g.L.Lit.table_place c.loop-current.trail.entries) (placed g.L.Lit.table_place c.loop-current.arena) (chain_at c.loop-current.chains.chains (g.L.Lit.table_place c.args.literal)) c.loop-current.current _ c.loop-current.looks c.in-Some.seat c.loop-current.invariant.walk c.in-Some.is)).at c.visit_seat.ensures.look c.visit_seat.ensures.outcome c.in_default-visit_seat.not-False in let was = ap (left_of (chain_at c.loop-current.chains.chains (g.L.Lit.table_place c.args.literal))) c.in-Some.is in omega (arith, w.3, was))
