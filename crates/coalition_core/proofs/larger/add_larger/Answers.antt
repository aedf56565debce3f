use Rattle.std.proofs.Common.{◌^◌, arith}
use Rattle.accepted_core.proofs.TakesFacts.{can_take_next}
use Rattle.coalition_core.specs.Plain.{larger_of_set}
use Rattle.coalition_core.proofs.larger.add_larger.Goals as goal

pub add_larger_of_set-requires-clause-fits : goal.add_larger_of_set-requires-clause-fits
add_larger_of_set-requires-clause-fits c = can_take_next c.args.formula.now c.loop-set.formula (larger_of_set c.args.first c.args.n) (2 ^ c.args.n) c.loop-set.set c.requires.fits c.loop-set.invariant (omega arith)
