use Rattle.std.proofs.Common.{arith}
use Rattle.accepted_core.proofs.TakesFacts.{can_take_next}
use Rattle.coalition_core.specs.Plain.{larger_at}
use Rattle.coalition_core.proofs.larger.add_larger_of_set.Goals as goal

pub add_larger_at-requires-clause-fits : goal.add_larger_at-requires-clause-fits
add_larger_at-requires-clause-fits c = can_take_next c.args.formula.now c.loop-i.formula (larger_at c.args.first c.args.set) c.args.n c.loop-i.i c.requires.fits c.loop-i.invariant (omega arith)
