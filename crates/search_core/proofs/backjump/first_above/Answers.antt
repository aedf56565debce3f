use Rattle.std.proofs.Common.{◌<◌, ◌+◌, ◌-◌, ◌/◌, arith, length}
use Rattle.search_core.proofs.EntryLemmas.{order_at, variable_inside}
use Rattle.search_core.proofs.backjump.first_above.Goals as goal

pub level_of-requires : goal.level_of-requires
level_of-requires c =
    let middle = c.loop-low.low + (c.loop-low.high - c.loop-low.low) / 2 in
    let lt : middle < length c.args.trail.now.entries = omega (arith, c.loop-low.invariant.most, c.loop-low-test.true) in
    let is = order_at c.args.trail.now c.order-order.result.now middle c.index-order-middle.result c.order-order.ensures lt c.index-order-middle.is in
    let v = variable_inside c.args.trail.now middle c.index-order-middle.result c.level-current.ensures.kept lt is in
    omega (arith, v, c.variable.ensures)
