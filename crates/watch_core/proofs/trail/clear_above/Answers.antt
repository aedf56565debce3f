use Rattle.std.proofs.Common.{ap, refl, ◌∙◌, ◌≡◌, ◌-◌, ◌/◌, arith}
use Rattle.std.proofs.Common.{get_or}
use Rattle.std.proofs.lemmas.List.{get_or_default}
use Rattle.literals_core.specs.Literal.{negation}
use Rattle.watch_core.proofs.AssignLemmas.{negation_is}
use Rattle.watch_core.proofs.TrailLemmas.{kept_turn, above_turn, clear_ends, clear_whole, turn_inside}
use Rattle.watch_core.proofs.trail.clear_above.Goals as goal

pub loop-size-preserved : goal.loop-size-preserved
loop-size-preserved g c =
    let away = negation_is (g.L.Lit.table_place c.index-order-size.result) _ _ _ (g.met.L.Lit.two_places c.index-order-size.result) (g.met.L.Lit.two_places (g.L.Lit.opposite c.index-order-size.result)) (g.met.L.Lit.same_variable c.index-order-size.result) (λ e. g.met.L.Lit.differs c.index-order-size.result (g.met.L.Lit.by_place _ _ e)) in
    let other : c.place.result ≡ negation (g.L.Lit.table_place c.index-order-size.result) = c.place.ensures ∙ ap g.L.Lit.table_place c.negation.ensures ∙ away in
    let inside = turn_inside g.L.Lit.table_place c.loop-size.values c.args.marks.now c.args.order.now _ c.loop-size.size (c.loop-size.size - 1) c.place-place.result c.index-order-size.result c.loop-size.invariant.kept refl c.loop-size-test.true c.loop-size.invariant.few c.index-order-size.is c.place-place.ensures in
    record {
      kept = kept_turn g.L.Lit.table_place c.loop-size.values c.args.marks.now c.args.order.now _ c.loop-size.size (c.loop-size.size - 1) c.place-place.result c.place.result c.index-order-size.result c.loop-size.invariant.kept refl c.loop-size-test.true c.loop-size.invariant.few c.index-order-size.is c.place-place.ensures other;
      few = omega (arith, c.loop-size.invariant.few);
      above = above_turn g.L.Lit.table_place c.args.marks.now c.args.order.now c.loop-size.size (c.loop-size.size - 1) (c.place-place.result / 2) c.args.level c.index-order-size.result (get_or c.args.marks.now (c.place-place.result / 2) (record { level = 0; reason = 0 })) refl c.loop-size-test.true c.loop-size.invariant.few c.index-order-size.is (ap (λ x. x / 2) c.place-place.ensures) inside (get_or_default c.args.marks.now (c.place-place.result / 2) (record { level = 0; reason = 0 }) _ inside) c.if-marks-place.false c.loop-size.invariant.above;
    }

pub returns-after-loop-size-clause-cut : goal.returns-after-loop-size-clause-cut
returns-after-loop-size-clause-cut g c = clear_whole g.L.Lit.table_place c.args.marks.now c.args.order.now _ c.args.level c.loop-size-test.false c.loop-size.invariant.above

pub returns-then-marks-place-clause-cut : goal.returns-then-marks-place-clause-cut
returns-then-marks-place-clause-cut g c =
    let inside = turn_inside g.L.Lit.table_place c.loop-size.values c.args.marks.now c.args.order.now _ c.loop-size.size (c.loop-size.size - 1) c.place-place.result c.index-order-size.result c.loop-size.invariant.kept refl c.loop-size-test.true c.loop-size.invariant.few c.index-order-size.is c.place-place.ensures in
    clear_ends g.L.Lit.table_place c.args.marks.now c.args.order.now c.loop-size.size (c.loop-size.size - 1) (c.place-place.result / 2) c.args.level c.index-order-size.result (get_or c.args.marks.now (c.place-place.result / 2) (record { level = 0; reason = 0 })) refl c.loop-size-test.true c.loop-size.invariant.few c.index-order-size.is (ap (λ x. x / 2) c.place-place.ensures) inside (get_or_default c.args.marks.now (c.place-place.result / 2) (record { level = 0; reason = 0 }) _ inside) c.if-marks-place.true c.loop-size.invariant.above c.requires.sorted
