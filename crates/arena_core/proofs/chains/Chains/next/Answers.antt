use Rattle.std.proofs.Common.{Some, ◌∙◌, ap, ◌<◌, length, arith, rules}
use Rattle.arena_core.specs.Chains.{Chained}
use Rattle.arena_core.proofs.SeatLemmas.{seated, after_read, spot, seat_small, apart_seen}
use Rattle.arena_core.proofs.chains.Chains.next.Goals as goal

pub index-requires : goal.index-requires
index-requires g c =
    let s = (seated g.L.Lit.table_place c.self.inside.heads.items c.self.inside.links.items c.args.self.now.chains c.args.seat c.self.invariant.keeps (ap (λ (x : Chained). x.chains) c.self.view_is) c.requires).0 in
    let lt : c.slot.result < length c.self.inside.links.items = omega (arith, s, c.slot.ensures) in
    search rules

pub at-requires : goal.at-requires
at-requires g c =
    let at = spot c.args.self.now.chains c.args.seat c.requires in
    let r = (after_read g.L.Lit.table_place c.self.inside.heads.items c.self.inside.links.items c.args.self.now.chains c.args.seat c.slot.result at.0 at.1 _ c.self.invariant.keeps (ap (λ (x : Chained). x.chains) c.self.view_is) c.requires c.slot.ensures c.index.ensures at.2 at.3).0 c.if-number.false in
    seat_small g.L.Lit.table_place c.self.inside.heads.items c.self.inside.links.items c.self.inside.room _ c.self.invariant r.0

pub returns-then-number-clause-value : goal.returns-then-number-clause-value
returns-then-number-clause-value g c = λ place i li at. (after_read g.L.Lit.table_place c.self.inside.heads.items c.self.inside.links.items c.args.self.now.chains c.args.seat c.slot.result place i _ c.self.invariant.keeps (ap (λ (x : Chained). x.chains) c.self.view_is) c.requires c.slot.ensures c.index.ensures li at).1 c.if-number.true

pub returns-else-number-clause-value : goal.returns-else-number-clause-value
returns-else-number-clause-value g c = λ place i li at. ap (λ n. Some n) c.at.ensures ∙ ((after_read g.L.Lit.table_place c.self.inside.heads.items c.self.inside.links.items c.args.self.now.chains c.args.seat c.slot.result place i _ c.self.invariant.keeps (ap (λ (x : Chained). x.chains) c.self.view_is) c.requires c.slot.ensures c.index.ensures li at).0 c.if-number.false).1

pub returns-then-number-clause-apart : goal.returns-then-number-clause-apart
returns-then-number-clause-apart g c = apart_seen g.L.Lit.table_place c.self.inside.heads.items c.self.inside.links.items c.args.self.now.chains c.self.invariant.keeps (ap (λ (x : Chained). x.chains) c.self.view_is)

pub returns-else-number-clause-apart : goal.returns-else-number-clause-apart
returns-else-number-clause-apart g c = apart_seen g.L.Lit.table_place c.self.inside.heads.items c.self.inside.links.items c.args.self.now.chains c.self.invariant.keeps (ap (λ (x : Chained). x.chains) c.self.view_is)
