use Rattle.std.proofs.Common.{◌≡◌, ◌∙◌, ap, sym, get_or}
use Rattle.arena_core.specs.Links.{none, place_in, owners}
use Rattle.arena_core.proofs.SeatLemmas.{owner_is}
use Rattle.arena_core.proofs.TakenLemmas.{owner_inside, before_seat, next_seat, unlinked}
use Rattle.arena_core.proofs.links.unlink_from.Goals as goal

pub unwrap-requires : goal.unwrap-requires
unwrap-requires g c = owner_is g.L.Lit.table_place c.link_at-link.result.owner _ c.link_at-link.ensures.owner c.requires.owned

pub put_head-requires : goal.put_head-requires
put_head-requires g c = owner_inside g.L.Lit.table_place c.args.heads.now c.args.links.now c.args.seat c.place-place.result c.requires.held c.requires.seat c.requires.owned (c.place-place.ensures ∙ sym (ap (place_in g.L.Lit.table_place) c.unwrap.ensures) ∙ c.link_at-link.ensures.owner)

pub put_next-requires-clause-seat : goal.put_next-requires-clause-seat
put_next-requires-clause-seat g c = before_seat g.L.Lit.table_place c.args.heads.now c.args.links.now c.args.seat _ _ c.requires.held c.requires.seat c.requires.owned c.link_at-link.ensures.before (cc)

pub put_before-requires-clause-seat : goal.put_before-requires-clause-seat
put_before-requires-clause-seat g c = next_seat g.L.Lit.table_place c.args.heads.now c.args.links.now c.args.seat _ _ c.requires.held c.requires.seat c.requires.owned c.link_at-link.ensures.next (cc)

pub returns-clause-held : goal.returns-clause-held
returns-clause-held g c =
    let owner : c.place-place.result ≡ get_or (owners g.L.Lit.table_place c.args.links.now) c.args.seat none = c.place-place.ensures ∙ sym (ap (place_in g.L.Lit.table_place) c.unwrap.ensures) ∙ c.link_at-link.ensures.owner in
    (unlinked g.L.Lit.table_place c.args.heads.now c.put_head.new.heads c.args.links.now c.set_owner.new.links c.args.seat c.place-place.result c.link_at-link.result.before c.link_at-link.result.next c.requires.held c.requires.seat (λ e. c.requires.owned (sym owner ∙ e)) owner c.link_at-link.ensures.before c.link_at-link.ensures.next c.put_head.ensures (cc) (cc) (cc)).0

pub returns-clause-chains : goal.returns-clause-chains
returns-clause-chains g c =
    let owner : c.place-place.result ≡ get_or (owners g.L.Lit.table_place c.args.links.now) c.args.seat none = c.place-place.ensures ∙ sym (ap (place_in g.L.Lit.table_place) c.unwrap.ensures) ∙ c.link_at-link.ensures.owner in
    (unlinked g.L.Lit.table_place c.args.heads.now c.put_head.new.heads c.args.links.now c.set_owner.new.links c.args.seat c.place-place.result c.link_at-link.result.before c.link_at-link.result.next c.requires.held c.requires.seat (λ e. c.requires.owned (sym owner ∙ e)) owner c.link_at-link.ensures.before c.link_at-link.ensures.next c.put_head.ensures (cc) (cc) (cc)).1
