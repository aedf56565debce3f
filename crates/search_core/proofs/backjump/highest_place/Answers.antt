use Rattle.std.proofs.Common.{arith}
use Rattle.search_core.proofs.LearnLemmas.{lower_inside}
use Rattle.search_core.proofs.backjump.highest_place.Goals as goal

pub level_of-at-requires : goal.level_of-at-requires
level_of-at-requires c = (let v = lower_inside c.args.trail.now c.args.lower.now c.loop-k.k c.index-lower-k.result c.requires.trail c.requires.lows c.loop-k-test.true c.index-lower-k.is in omega (arith, v, c.variable-in-loop-k.ensures))
