use Rattle.std.proofs.Common.{ap, ◌<◌, length, rules}
use Rattle.arena_core.specs.Chains.{Chained}
use Rattle.arena_core.proofs.SeatLemmas.{keeps_same, not_owned}
use Rattle.arena_core.proofs.chains.Chains.link.Goals as goal

pub link_in-requires-clause-held : goal.link_in-requires-clause-held
link_in-requires-clause-held g c = keeps_same g.L.Lit.table_place _ _ _ _ c.self.invariant.keeps c.as_mut_slice.ensures.value c.as_mut_slice-2.ensures.value

pub link_in-requires-clause-free : goal.link_in-requires-clause-free
link_in-requires-clause-free g c =
    let lt : c.slot.result < length c.as_mut_slice-2.result.now = search rules in
    not_owned g.L.Lit.table_place c.self.inside.heads.items c.self.inside.links.items c.as_mut_slice-2.result.now c.args.self.now.chains c.args.seat c.slot.result c.self.invariant.keeps (ap (λ (x : Chained). x.chains) c.self.view_is) c.requires.free c.as_mut_slice-2.ensures.value c.slot.ensures lt
