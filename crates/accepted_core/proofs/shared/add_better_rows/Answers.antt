use Rattle.std.proofs.Common.{◌+◌, ◌*◌, arith}
use Rattle.accepted_core.specs.Plain.{better_row}
use Rattle.accepted_core.proofs.TakesFacts.{can_take_next}
use Rattle.accepted_core.proofs.shared.add_better_rows.Goals as goal

pub add_better_row-requires : goal.add_better_row-requires
add_better_row-requires c = can_take_next c.args.formula.now c.loop-b.formula (λ b. better_row (c.args.first + b * c.args.count) c.args.count) c.args.boundaries c.loop-b.b c.requires.fits c.loop-b.invariant (omega arith)
