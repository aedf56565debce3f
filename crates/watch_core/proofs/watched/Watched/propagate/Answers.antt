use Rattle.std.proofs.Common.{ap, sym, subst, List}
use Rattle.watch_core.specs.Places.{placed}
use Rattle.watch_core.specs.Rest.{CanPropagate}
use Rattle.watch_core.specs.Propagates.{AreReordered}
use Rattle.watch_core.specs.Watched.{Clauses}
use Rattle.watch_core.proofs.HeldLemmas.{held_from, going_from, outcome_now}
use Rattle.watch_core.proofs.OrderLemmas.{only_order}
use Rattle.watch_core.proofs.watched.Watched.propagate.Goals as goal

pub propagate_all-requires : goal.propagate_all-requires
propagate_all-requires g c = record { going = going_from g.L.Lit.table_place (placed g.L.Lit.table_place c.self.inside.arena) c.self.inside.chains.chains c.self.inside.trail c.self.invariant.covers (subst (λ (x : Clauses g.row.L.Denot). CanPropagate g.L.Lit.table_place x.trail (placed g.L.Lit.table_place x.clauses)) (sym c.self.view_is) c.requires.ready) }

pub invariant_of-self : goal.invariant_of-self
invariant_of-self g c = held_from g.L.Lit.table_place c.self.inside.arena c.propagate_all.new.arena c.self.inside.chains.chains c.propagate_all.new.chains.chains c.self.inside.chains.room c.propagate_all.new.chains.room c.self.inside.trail c.propagate_all.new.trail c.self.invariant c.propagate_all.ensures.going c.propagate_all.ensures.goes c.propagate_all.ensures.room

pub returns-clause-outcome : goal.returns-clause-outcome
returns-clause-outcome g c = outcome_now g.L.Lit.table_place c.propagate_all.new.arena c.propagate_all.new.chains.chains c.propagate_all.new.trail c.propagate_all.result c.propagate_all.ensures.going c.propagate_all.ensures.none c.propagate_all.ensures.some

pub returns-clause-order : goal.returns-clause-order
returns-clause-order g c =
    let P : List (List g.row.L.Denot) → Type 0 = λ xs. AreReordered xs c.propagate_all.new.arena in
    subst P (ap (λ (x : Clauses g.row.L.Denot). x.clauses) c.self.view_is) (only_order g.L.Lit.table_place g.met.L.Lit.by_place c.self.inside.arena c.propagate_all.new.arena c.propagate_all.ensures.goes.order)

pub returns-clause-kept : goal.returns-clause-kept
returns-clause-kept g c = c.propagate_all.ensures.going.covers.trail
