use Rattle.std.proofs.Common.{length, get_or, ap, arith}
use Rattle.encoding_rules.proofs.EachFacts.{length-listed}
use Rattle.learn_core.specs.Numbers.{threshold_in}
use Rattle.learn_core.proofs.profiles.profiles_of.Goals as goal

pub from_vec-requires : goal.from_vec-requires
from_vec-requires c =
    let size = ap length c.in_ok-row.ensures in
    let many = length-listed (threshold_in c.args.values.now c.args.ranks.now.grades (get_or c.args.firsts.now c.loop-i.i 0) c.loop-i.i) c.args.boundaries in
    omega (arith, size, many, c.requires.boundaries)
