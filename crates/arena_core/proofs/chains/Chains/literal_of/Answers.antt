use Rattle.std.proofs.Common.{ap, ◌<◌, length, arith, rules}
use Rattle.arena_core.specs.Chains.{Chained}
use Rattle.arena_core.proofs.SeatLemmas.{seated, owner_is, owner_read, owned}
use Rattle.arena_core.proofs.chains.Chains.literal_of.Goals as goal

pub index-requires : goal.index-requires
index-requires g c =
    let s = (seated g.L.Lit.table_place c.self.inside.heads.items c.self.inside.links.items c.args.self.now.chains c.args.seat c.self.invariant.keeps (ap (λ (x : Chained). x.chains) c.self.view_is) c.requires).0 in
    let lt : c.slot.result < length c.self.inside.links.items = omega (arith, s, c.slot.ensures) in
    search rules

pub unwrap-requires : goal.unwrap-requires
unwrap-requires g c =
    let s = seated g.L.Lit.table_place c.self.inside.heads.items c.self.inside.links.items c.args.self.now.chains c.args.seat c.self.invariant.keeps (ap (λ (x : Chained). x.chains) c.self.view_is) c.requires in
    owner_is g.L.Lit.table_place _ _ (owner_read g.L.Lit.table_place c.self.inside.links.items c.args.seat c.slot.result _ s.0 c.slot.ensures c.index.ensures) s.1

pub returns : goal.returns
returns g c = owned g.L.Lit.table_place c.self.inside.heads.items c.self.inside.links.items c.args.self.now.chains c.args.seat c.slot.result _ c.unwrap.result c.self.invariant.keeps (ap (λ (x : Chained). x.chains) c.self.view_is) c.requires c.slot.ensures c.index.ensures c.unwrap.ensures
