use Rattle.std.proofs.Common.{◌+◌, ◌*◌, [], length, get_or, arith}
use Rattle.separation_core.specs.Plain.{pair_of}
use Rattle.accepted_core.proofs.TakesFacts.{can_take_next}
use Rattle.separation_core.proofs.pairs.add_pairs_of_good.Goals as goal

pub add_pair-requires-clause-fits : goal.add_pair-requires-clause-fits
add_pair-requires-clause-fits c = rw c.row.ensures (can_take_next c.args.formula.now c.loop-b.formula (λ b. pair_of (c.args.first + b * c.args.n) c.args.good.now (get_or c.args.bads.now b [])) (length c.args.bads.now) c.loop-b.b c.requires.fits c.loop-b.invariant (omega arith))
