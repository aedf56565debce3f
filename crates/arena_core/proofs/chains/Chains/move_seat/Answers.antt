use Rattle.std.proofs.Common.{ap, rules}
use Rattle.std.proofs.lemmas.List.{with_items_is}
use Rattle.arena_core.specs.Chains.{Chained}
use Rattle.arena_core.proofs.SeatLemmas.{keeps_same, seated_same, still_roomy}
use Rattle.arena_core.proofs.chains.Chains.move_seat.Goals as goal

pub move_in-requires-clause-held : goal.move_in-requires-clause-held
move_in-requires-clause-held g c = keeps_same g.L.Lit.table_place _ _ _ _ c.self.invariant.keeps c.as_mut_slice.ensures.value c.as_mut_slice-2.ensures.value

pub move_in-requires-clause-seated : goal.move_in-requires-clause-seated
move_in-requires-clause-seated g c = seated_same c.self.inside.heads.items c.as_mut_slice.result.now c.self.inside.links.items c.as_mut_slice-2.result.now c.args.self.now.chains c.args.seat c.slot.result c.as_mut_slice.ensures.value c.as_mut_slice-2.ensures.value (ap (λ (x : Chained). x.chains) c.self.view_is) c.slot.ensures c.requires.seated

pub invariant_of-self : goal.invariant_of-self
invariant_of-self g c = still_roomy g.L.Lit.table_place _ c.move_in.new.heads _ c.self.inside.links.items c.move_in.new.links _ _ c.self.invariant c.move_in.ensures.held (search rules) (with_items_is c.self.inside.heads c.move_in.new.heads (search rules)) (with_items_is c.self.inside.links c.move_in.new.links (search rules))
