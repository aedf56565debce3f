use Rattle.std.proofs.Common.{ap, ◌≡◌, ◌*◌, length, map, arith}
use Rattle.watch_core.specs.Watched.{Clauses}
use Rattle.watch_core.proofs.AddLemmas.{clause_inside, held_added, none_seated, clause_short}
use Rattle.std.proofs.lemmas.List.{length-map}
use Rattle.watch_core.proofs.watched.Watched.add_clause.Goals as goal

pub link_both-requires-clause-inside : goal.link_both-requires-clause-inside
link_both-requires-clause-inside g c k d lt = (let a = clause_inside g.L.Lit.table_place (2 * c.args.self.now.trail.variables) c.args.literals.now c.requires.clause.inside k d lt in let v : c.self.inside.trail.variables ≡ c.args.self.now.trail.variables = ap (λ (x : Clauses g.row.L.Denot). x.trail.variables) c.self.view_is in let e = ap length c.reserve.ensures.chains in omega (arith, a, v, e, c.self.invariant.covers.size))

pub link_both-requires-clause-free : goal.link_both-requires-clause-free
link_both-requires-clause-free g c = none_seated g.L.Lit.table_place c.self.inside.arena c.self.inside.chains.chains c.reserve.new.self.chains c.self.inside.chains.room c.in_ok-id.id c.self.inside.trail c.self.invariant c.in_ok-id.ensures.id c.reserve.ensures.chains

pub invariant_of-self-2 : goal.invariant_of-self-2
invariant_of-self-2 g c = held_added g.L.Lit.table_place c.self.inside.arena c.push.new.self c.args.literals.now c.self.inside.chains.chains c.reserve.new.self.chains c.link_both.new.chains.chains c.self.inside.chains.room c.reserve.new.self.room c.link_both.new.chains.room c.in_ok-id.id c.self.inside.trail c.args.self.now.trail c.self.invariant (ap (λ (x : Clauses g.row.L.Denot). x.trail) c.self.view_is) c.requires.clause c.requires.rest c.in_ok-id.ensures.clause c.in_ok-id.ensures.id c.reserve.ensures.chains c.link_both.ensures.chains (omega (arith, c.in_ok-reserve.ensures.ok, c.count-count.ensures)) c.link_both.ensures.room

pub push-requires-clause-short : goal.push-requires-clause-short
push-requires-clause-short g c =
    let few = clause_short c.args.self.now.trail.variables (map g.L.Lit.table_place c.args.literals.now) c.requires.clause.inside c.requires.clause.apart in
    let n = length-map c.args.literals.now g.L.Lit.table_place in
    let v : c.self.inside.trail.variables ≡ c.args.self.now.trail.variables = ap (λ (x : Clauses g.row.L.Denot). x.trail.variables) c.self.view_is in
    omega (arith, few, n, v, c.self.invariant.covers.trail.few)
