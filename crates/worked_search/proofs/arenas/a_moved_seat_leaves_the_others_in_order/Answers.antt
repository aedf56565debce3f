use Rattle.std.proofs.Common.{◌∙◌, ap, not, true}
use Rattle.arena_core.proofs.MovedLemmas.{all_seated, place_from}
use Rattle.arena_core.specs.declared.small_lit.SmallLit.{SmallLit}
use Rattle.worked_search.proofs.arenas.a_moved_seat_leaves_the_others_in_order.Goals as goal

pub next-requires : goal.next-requires
next-requires c = λ c. (all_seated c.move_seat.new.self.chains c.reserve.new.self.chains c.link.new.self.chains c.link-2.new.self.chains c.link-3.new.self.chains _ _ c.right_seat-first.result c.right_seat-second.result c.right_seat-third.result (place_from _ _ c.positive-x.ensures) (place_from _ (record { variable = 3; is_negative = true }) (c.negation-y.ensures ∙ ap (λ (l : SmallLit). record { variable = l.variable; is_negative = not l.is_negative }) c.positive.ensures)) c.right_seat-first.ensures c.right_seat-second.ensures c.right_seat-third.ensures (c.reserve.ensures.chains ∙ c.in_ok-chains.ensures.chains) c.link.ensures.chains c.link-2.ensures.chains c.link-3.ensures.chains c.move_seat.ensures.chains).third_seated

pub next-requires-2 : goal.next-requires-2
next-requires-2 c = λ c. (all_seated c.move_seat.new.self.chains c.reserve.new.self.chains c.link.new.self.chains c.link-2.new.self.chains c.link-3.new.self.chains _ _ c.right_seat-first.result c.right_seat-second.result c.right_seat-third.result (place_from _ _ c.positive-x.ensures) (place_from _ (record { variable = 3; is_negative = true }) (c.negation-y.ensures ∙ ap (λ (l : SmallLit). record { variable = l.variable; is_negative = not l.is_negative }) c.positive.ensures)) c.right_seat-first.ensures c.right_seat-second.ensures c.right_seat-third.ensures (c.reserve.ensures.chains ∙ c.in_ok-chains.ensures.chains) c.link.ensures.chains c.link-2.ensures.chains c.link-3.ensures.chains c.move_seat.ensures.chains).first_seated

pub next-requires-3 : goal.next-requires-3
next-requires-3 c = λ c. (all_seated c.move_seat.new.self.chains c.reserve.new.self.chains c.link.new.self.chains c.link-2.new.self.chains c.link-3.new.self.chains _ _ c.right_seat-first.result c.right_seat-second.result c.right_seat-third.result (place_from _ _ c.positive-x.ensures) (place_from _ (record { variable = 3; is_negative = true }) (c.negation-y.ensures ∙ ap (λ (l : SmallLit). record { variable = l.variable; is_negative = not l.is_negative }) c.positive.ensures)) c.right_seat-first.ensures c.right_seat-second.ensures c.right_seat-third.ensures (c.reserve.ensures.chains ∙ c.in_ok-chains.ensures.chains) c.link.ensures.chains c.link-2.ensures.chains c.link-3.ensures.chains c.move_seat.ensures.chains).second_seated
