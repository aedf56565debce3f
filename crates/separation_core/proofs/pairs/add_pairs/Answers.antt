use Rattle.std.proofs.Common.{◌+◌, ◌*◌, [], length, get_or, arith}
use Rattle.separation_core.specs.Plain.{pairs_of_good}
use Rattle.accepted_core.proofs.TakesFacts.{can_take_next}
use Rattle.separation_core.proofs.pairs.add_pairs.Goals as goal

pub add_pairs_of_good-requires-clause-fits : goal.add_pairs_of_good-requires-clause-fits
add_pairs_of_good-requires-clause-fits c = rw (c.row.ensures, c.count.ensures) (can_take_next c.args.formula.now c.loop-a.formula (λ a. pairs_of_good (c.args.first + a * (length c.args.bads.now * c.args.n)) c.args.n (get_or c.args.goods.now a []) c.args.bads.now) (length c.args.goods.now) c.loop-a.a c.requires.fits c.loop-a.invariant (omega arith))
