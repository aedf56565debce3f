use Rattle.std.proofs.Common.{◌≡◌, ◌<◌, ◌+◌, ◌-◌, sym, ◌∙◌, ap, arith, length, get_or}
use Rattle.literals_core.specs.Literal.{variable_of}
use Rattle.search_core.specs.State.{no_entry}
use Rattle.search_core.proofs.EntryLemmas.{order_at, variable_inside}
use Rattle.search_core.proofs.MarkLemmas.{none_lower, none_more}
use Rattle.search_core.proofs.mark.last_marked.Goals as goal

pub level_of-requires : goal.level_of-requires
level_of-requires c =
    let lt : c.loop-place.place - 1 < length c.args.trail.now.entries = omega (arith, c.requires.below, c.loop-place.invariant.most, c.loop-place-test.true) in
    let is = order_at c.args.trail.now c.order-order.result.now (c.loop-place.place - 1) c.index-order-place.result c.order-order.ensures lt c.index-order-place.is in
    let v = variable_inside c.args.trail.now (c.loop-place.place - 1) c.index-order-place.result c.level-level.ensures.kept lt is in
    omega (arith, v, c.variable-variable.ensures)

pub bounds-stamps-variable : goal.bounds-stamps-variable
bounds-stamps-variable c =
    let lt : c.loop-place.place - 1 < length c.args.trail.now.entries = omega (arith, c.requires.below, c.loop-place.invariant.most, c.loop-place-test.true) in
    let is = order_at c.args.trail.now c.order-order.result.now (c.loop-place.place - 1) c.index-order-place.result c.order-order.ensures lt c.index-order-place.is in
    let v = variable_inside c.args.trail.now (c.loop-place.place - 1) c.index-order-place.result c.level-level.ensures.kept lt is in
    omega (arith, v, c.variable-variable.ensures, c.requires.size)

pub returns-then-level_of-level : goal.returns-then-level_of-level
returns-then-level_of-level c =
    let lt : c.loop-place.place - 1 < length c.args.trail.now.entries = omega (arith, c.requires.below, c.loop-place.invariant.most, c.loop-place-test.true) in
    let is = order_at c.args.trail.now c.order-order.result.now (c.loop-place.place - 1) c.index-order-place.result c.order-order.ensures lt c.index-order-place.is in
    let n = c.level_of.ensures (c.loop-place.place - 1) no_entry lt (ap variable_of is ∙ sym c.variable-variable.ensures) in
    let q : c.loop-place.place - 1 + 1 ≡ c.loop-place.place = omega (arith, c.loop-place-test.true) in
    none_lower c.args.trail.now c.args.stamps.now c.args.stamp (c.loop-place.place - 1) c.args.below c.level-level.ensures.kept lt (omega (arith, n, c.if-level_of-level.true, c.level-level.ensures.value))
    (λ i le in' open'. c.loop-place.invariant.none i (omega (arith, q, le)) in' open')

pub level_of-requires-then-place-floor : goal.level_of-requires-then-place-floor
level_of-requires-then-place-floor c =
    let lt : c.loop-place.place - 1 < length c.args.trail.now.entries = omega (arith, c.requires.below, c.loop-place.invariant.most, c.loop-place-test.true) in
    let is = order_at c.args.trail.now c.order-order.result.now (c.loop-place.place - 1) c.index-order-place.result c.order-order.ensures lt c.index-order-place.is in
    let v = variable_inside c.args.trail.now (c.loop-place.place - 1) c.index-order-place.result c.level-level.ensures.kept lt is in
    omega (arith, v, c.variable-variable.ensures)

pub returns-then-level_of-level-2 : goal.returns-then-level_of-level-2
returns-then-level_of-level-2 c =
    let lt : c.loop-place.place - 1 < length c.args.trail.now.entries = omega (arith, c.requires.below, c.loop-place.invariant.most, c.loop-place-test.true) in
    let is = order_at c.args.trail.now c.order-order.result.now (c.loop-place.place - 1) c.index-order-place.result c.order-order.ensures lt c.index-order-place.is in
    let n = c.level_of-then-place-floor.ensures (c.loop-place.place - 1) no_entry lt (ap variable_of is ∙ sym c.variable-variable.ensures) in
    let q : c.loop-place.place - 1 + 1 ≡ c.loop-place.place = omega (arith, c.loop-place-test.true) in
    none_lower c.args.trail.now c.args.stamps.now c.args.stamp (c.loop-place.place - 1) c.args.below c.level-level.ensures.kept lt (omega (arith, n, c.if-level_of-level-2.true, c.level-level.ensures.value))
    (λ i le in' open'. c.loop-place.invariant.none i (omega (arith, q, le)) in' open')

pub loop-place-preserved : goal.loop-place-preserved
loop-place-preserved c =
    let lt : c.loop-place.place - 1 < length c.args.trail.now.entries = omega (arith, c.requires.below, c.loop-place.invariant.most, c.loop-place-test.true) in
    let is = order_at c.args.trail.now c.order-order.result.now (c.loop-place.place - 1) c.index-order-place.result c.order-order.ensures lt c.index-order-place.is in
    record {
      most = omega (arith, c.loop-place.invariant.most);
      none = none_more c.args.trail.now c.args.stamps.now c.args.stamp (c.loop-place.place - 1) c.loop-place.place c.args.below (omega (arith, c.loop-place-test.true))
          (λ h. c.if-stamps-variable.false (ap (λ v. get_or c.args.stamps.now v 0) (c.variable-variable.ensures ∙ sym (ap variable_of is)) ∙ h)) c.loop-place.invariant.none;
    }
