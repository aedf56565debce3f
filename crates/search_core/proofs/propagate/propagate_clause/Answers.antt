use Rattle.std.proofs.Common.{ℕ, ◌+◌, [], List, Option, Some, get_or, ap, refl, sym, ◌∙◌, subst, arith}
use Rattle.watch_core.specs.Trail.{Assignment, places, value_of}
use Rattle.watch_core.specs.Places.{placed}
use Rattle.watch_core.specs.Rest.{Outcome}
use Rattle.search_core.specs.State.{place, IsSound, IsFalseAtStart}
use Rattle.search_core.proofs.OutcomeLemmas.{inside_from}
use Rattle.search_core.proofs.UnitLemmas.{unit_read, unit_has, built_true, built_unit, false_met, none_of, some_of}
use Rattle.search_core.proofs.propagate.propagate_clause.Goals as goal

pub value-requires : goal.value-requires
value-requires g c =
    let t = c.args.watched.now.trail in
    let clauses = c.args.watched.now.clauses in
    let read = unit_read clauses c.arena.result.now c.arena-2.result.now c.literals.result.now c.args.id c.len-length.result c.index-literals-0.result c.arena.ensures.value c.arena-2.ensures.value c.len-length.ensures c.if-length-ne1.false c.literals.ensures.clause c.index-literals-0.is in
    let has = unit_has (get_or clauses c.args.id []) c.index-literals-0.result read.0 read.1 in
    let low = inside_from t t clauses clauses refl refl c.arena-2.ensures.inside c.args.id c.index-literals-0.result has in
    (let v = ap (λ (u : Assignment ℕ). u.variables) c.trail.ensures.value in omega (arith, low, v))

pub assign_unit-requires-clause-inside : goal.assign_unit-requires-clause-inside
assign_unit-requires-clause-inside g c =
    let t = c.args.watched.now.trail in
    let clauses = c.args.watched.now.clauses in
    let read = unit_read clauses c.arena.result.now c.arena-2.result.now c.literals.result.now c.args.id c.len-length.result c.index-literals-0.result c.arena.ensures.value c.arena-2.ensures.value c.len-length.ensures c.if-length-ne1.false c.literals.ensures.clause c.index-literals-0.is in
    let has = unit_has (get_or clauses c.args.id []) c.index-literals-0.result read.0 read.1 in
    inside_from t t clauses clauses refl refl c.arena-2.ensures.inside c.args.id c.index-literals-0.result has

pub returns-in-Some-true-clause-none : goal.returns-in-Some-true-clause-none
returns-in-Some-true-clause-none g c known built =
    let t = c.args.watched.now.trail in
    let clauses = c.args.watched.now.clauses in
    let read = unit_read clauses c.arena.result.now c.arena-2.result.now c.literals.result.now c.args.id c.len-length.result c.index-literals-0.result c.arena.ensures.value c.arena-2.ensures.value c.len-length.ensures c.if-length-ne1.false c.literals.ensures.clause c.index-literals-0.is in
    let has = unit_has (get_or clauses c.args.id []) c.index-literals-0.result read.0 read.1 in
    built_true c.args.id known clauses t c.index-literals-0.result c.requires.trail c.requires.start built has (ap (λ (u : Assignment ℕ). value_of (places place u.entries) c.index-literals-0.result) (sym c.trail.ensures.value) ∙ sym c.in-Some-true.ensures ∙ ap Some c.in-Some-true.field-0-test)

pub returns-in-None-clause-none : goal.returns-in-None-clause-none
returns-in-None-clause-none g c =
    let t = c.args.watched.now.trail in
    let clauses = c.args.watched.now.clauses in
    let read = unit_read clauses c.arena.result.now c.arena-2.result.now c.literals.result.now c.args.id c.len-length.result c.index-literals-0.result c.arena.ensures.value c.arena-2.ensures.value c.len-length.ensures c.if-length-ne1.false c.literals.ensures.clause c.index-literals-0.is in
    let has = unit_has (get_or clauses c.args.id []) c.index-literals-0.result read.0 read.1 in
    none_of ((known : List (List ℕ)) → IsSound c.args.id known clauses t → IsSound (c.args.id + 1) known c.assign_unit.new.watched.clauses c.assign_unit.new.watched.trail) c.assign_unit.result
    (λ known built. built_unit c.args.id known clauses c.assign_unit.new.watched.clauses t c.assign_unit.new.watched.trail c.index-literals-0.result c.requires.start c.requires.known built read.0 read.1 c.assign_unit.ensures.change c.assign_unit.ensures.order)

pub returns-in-None-clause-some : goal.returns-in-None-clause-some
returns-in-None-clause-some g c =
    let t = c.args.watched.now.trail in
    let clauses = c.args.watched.now.clauses in
    let read = unit_read clauses c.arena.result.now c.arena-2.result.now c.literals.result.now c.args.id c.len-length.result c.index-literals-0.result c.arena.ensures.value c.arena-2.ensures.value c.len-length.ensures c.if-length-ne1.false c.literals.ensures.clause c.index-literals-0.is in
    let has = unit_has (get_or clauses c.args.id []) c.index-literals-0.result read.0 read.1 in
    some_of (λ k. (known : List (List ℕ)) → IsSound c.args.id known clauses t → IsFalseAtStart known c.assign_unit.new.watched.clauses c.assign_unit.new.watched.trail k) c.assign_unit.result
    (λ k is known built. false_met (c.args.id + 1) k known c.assign_unit.new.watched.clauses c.assign_unit.new.watched.trail (c.assign_unit.ensures.change.level ∙ c.requires.start)
    (built_unit c.args.id known clauses c.assign_unit.new.watched.clauses t c.assign_unit.new.watched.trail c.index-literals-0.result c.requires.start c.requires.known built read.0 read.1 c.assign_unit.ensures.change c.assign_unit.ensures.order)
    (subst (λ (o : Option ℕ). Outcome place c.assign_unit.new.watched.trail (placed place c.assign_unit.new.watched.clauses) o) is c.assign_unit.ensures.outcome))
