use Rattle.std.proofs.Common.{ap, sym, refl, ◌∙◌, ◌≡◌, arith}
use Rattle.literals_core.specs.Literal.{negation}
use Rattle.literals_core.proofs.Negation.{negation_twice}
use Rattle.watch_core.specs.Places.{placed}
use Rattle.watch_core.specs.Trail.{one_taken}
use Rattle.watch_core.proofs.AssignLemmas.{negation_is}
use Rattle.watch_core.proofs.GoingLemmas.{goes_trans}
use Rattle.watch_core.proofs.VisitLemmas.{first_waits, first_low, none_waits, negation_low, walked_taken}
use Rattle.watch_core.proofs.LookLemmas.{looks_more, looks_whole}
use Rattle.watch_core.proofs.walk.propagate_all.Goals as goal

pub walk-requires-clause-waits : goal.walk-requires-clause-waits
walk-requires-clause-waits g c =
    let away = negation_is (g.L.Lit.table_place c.in-Some.literal) _ _ _ (g.met.L.Lit.two_places c.in-Some.literal) (g.met.L.Lit.two_places (g.L.Lit.opposite c.in-Some.literal)) (g.met.L.Lit.same_variable c.in-Some.literal) (λ e. g.met.L.Lit.differs c.in-Some.literal (g.met.L.Lit.by_place _ _ e)) in
    let other : g.L.Lit.table_place c.negation.result ≡ negation (g.L.Lit.table_place c.in-Some.literal) = ap g.L.Lit.table_place c.negation.ensures ∙ away in
    let first = sym c.in-Some.is ∙ c.first_waiting.ensures in
    first_waits g.L.Lit.table_place c.loop-literal.trail c.in-Some.literal (g.L.Lit.table_place c.negation.result) first (ap negation other ∙ negation_twice (g.L.Lit.table_place c.in-Some.literal))

pub walk-requires-clause-place : goal.walk-requires-clause-place
walk-requires-clause-place g c =
    let away = negation_is (g.L.Lit.table_place c.in-Some.literal) _ _ _ (g.met.L.Lit.two_places c.in-Some.literal) (g.met.L.Lit.two_places (g.L.Lit.opposite c.in-Some.literal)) (g.met.L.Lit.same_variable c.in-Some.literal) (λ e. g.met.L.Lit.differs c.in-Some.literal (g.met.L.Lit.by_place _ _ e)) in
    let other : g.L.Lit.table_place c.negation.result ≡ negation (g.L.Lit.table_place c.in-Some.literal) = ap g.L.Lit.table_place c.negation.ensures ∙ away in
    let first = sym c.in-Some.is ∙ c.first_waiting.ensures in
    let low = negation_low (g.L.Lit.table_place c.in-Some.literal) c.loop-literal.trail.variables (first_low g.L.Lit.table_place c.loop-literal.trail c.in-Some.literal c.loop-literal.invariant.going.covers.trail first) in
    omega (arith, low, other)

pub returns-in-Some-walk-clause-goes : goal.returns-in-Some-walk-clause-goes
returns-in-Some-walk-clause-goes g c = goes_trans g.L.Lit.table_place (placed g.L.Lit.table_place c.args.arena.now) (placed g.L.Lit.table_place c.loop-literal.arena) (placed g.L.Lit.table_place c.walk.new.arena) c.args.trail.now c.loop-literal.trail c.walk.new.trail c.loop-literal.invariant.goes c.walk.ensures.goes

pub loop-literal-preserved : goal.loop-literal-preserved
loop-literal-preserved g c =
    let away = negation_is (g.L.Lit.table_place c.in-Some.literal) _ _ _ (g.met.L.Lit.two_places c.in-Some.literal) (g.met.L.Lit.two_places (g.L.Lit.opposite c.in-Some.literal)) (g.met.L.Lit.same_variable c.in-Some.literal) (λ e. g.met.L.Lit.differs c.in-Some.literal (g.met.L.Lit.by_place _ _ e)) in
    let other : g.L.Lit.table_place c.negation.result ≡ negation (g.L.Lit.table_place c.in-Some.literal) = ap g.L.Lit.table_place c.negation.ensures ∙ away in
    let first = sym c.in-Some.is ∙ c.first_waiting.ensures in
    let done = walked_taken g.L.Lit.table_place (placed g.L.Lit.table_place c.args.arena.now) (placed g.L.Lit.table_place c.loop-literal.arena) (placed g.L.Lit.table_place c.walk.new.arena) c.walk.new.chains.chains c.args.trail.now c.loop-literal.trail c.walk.new.trail c.take_one.new.self c.in-Some.literal (g.L.Lit.table_place c.negation.result) c.loop-literal.invariant.goes c.walk.ensures.going c.walk.ensures.goes c.walk.ensures.taken first (ap negation other ∙ negation_twice (g.L.Lit.table_place c.in-Some.literal)) c.in_default-walk.ensures.none c.take_one.ensures in
    record { going = done.0; goes = done.1; room = c.walk.ensures.room ∙ c.loop-literal.invariant.room; cost = looks_more g.L.Lit.table_place (placed g.L.Lit.table_place c.args.arena.now) (placed g.L.Lit.table_place c.loop-literal.arena) (placed g.L.Lit.table_place c.walk.new.arena) c.loop-literal.chains.chains c.args.trail.now c.loop-literal.trail c.walk.new.trail c.take_one.new.self c.in-Some.literal (g.L.Lit.table_place c.negation.result) c.args.looks.now c.loop-literal.looks c.walk.new.looks c.loop-literal.invariant.goes c.walk.ensures.goes c.walk.ensures.taken c.loop-literal.invariant.going.covers.watches c.walk.ensures.apart first other c.take_one.ensures c.loop-literal.invariant.goes.taken c.loop-literal.invariant.cost c.walk.ensures.looks }

pub returns-clause-none : goal.returns-clause-none
returns-clause-none g c = none_waits c.loop-literal.trail (sym c.in_default.is ∙ c.first_waiting.ensures)

pub returns-clause-looks : goal.returns-clause-looks
returns-clause-looks g c = (let a = looks_whole g.L.Lit.table_place (placed g.L.Lit.table_place c.args.arena.now) c.args.trail.now.taken c.loop-literal.trail.taken c.loop-literal.trail.entries in omega (arith, a, c.loop-literal.invariant.cost))

pub returns-in-Some-walk-clause-looks : goal.returns-in-Some-walk-clause-looks
returns-in-Some-walk-clause-looks g c =
    let away = negation_is (g.L.Lit.table_place c.in-Some.literal) _ _ _ (g.met.L.Lit.two_places c.in-Some.literal) (g.met.L.Lit.two_places (g.L.Lit.opposite c.in-Some.literal)) (g.met.L.Lit.same_variable c.in-Some.literal) (λ e. g.met.L.Lit.differs c.in-Some.literal (g.met.L.Lit.by_place _ _ e)) in
    let other : g.L.Lit.table_place c.negation.result ≡ negation (g.L.Lit.table_place c.in-Some.literal) = ap g.L.Lit.table_place c.negation.ensures ∙ away in
    let first = sym c.in-Some.is ∙ c.first_waiting.ensures in
    let more = looks_more g.L.Lit.table_place (placed g.L.Lit.table_place c.args.arena.now) (placed g.L.Lit.table_place c.loop-literal.arena) (placed g.L.Lit.table_place c.walk.new.arena) c.loop-literal.chains.chains c.args.trail.now c.loop-literal.trail c.walk.new.trail (one_taken c.walk.new.trail) c.in-Some.literal (g.L.Lit.table_place c.negation.result) c.args.looks.now c.loop-literal.looks c.walk.new.looks c.loop-literal.invariant.goes c.walk.ensures.goes c.walk.ensures.taken c.loop-literal.invariant.going.covers.watches c.walk.ensures.apart first other refl c.loop-literal.invariant.goes.taken c.loop-literal.invariant.cost c.walk.ensures.looks in
    omega (arith, more)
