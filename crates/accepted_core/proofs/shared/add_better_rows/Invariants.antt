use Rattle.std.proofs.Common.{◌+◌, ◌*◌}
use Rattle.accepted_core.specs.Plain.{better_row}
use Rattle.accepted_core.proofs.TakesFacts.{TakesSo}
use Rattle.accepted_core.proofs.shared.add_better_rows.Given as goal

abbrev pub invariant-loop-b : goal.invariant-loop-b
invariant-loop-b l = TakesSo l.fn.formula l.formula (λ b. better_row (l.first + b * l.count) l.count) l.b
