use Rattle.std.proofs.Common.{length, get_or, arith}
use Rattle.accepted_core.specs.Plain.{lower_rows}
use Rattle.accepted_core.proofs.TakesFacts.{can_take_next}
use Rattle.accepted_core.proofs.shared.add_lower.Goals as goal

pub add_lower_rows-requires-clause-fits : goal.add_lower_rows-requires-clause-fits
add_lower_rows-requires-clause-fits c = can_take_next c.args.formula.now c.loop-i.formula (λ i. lower_rows (get_or c.args.firsts.now i 0) (get_or c.args.counts.now i 0) c.args.boundaries) (length c.args.counts.now) c.loop-i.i c.requires.fits c.loop-i.invariant (omega arith)
