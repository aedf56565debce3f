use Rattle.std.proofs.Common.{◌≡◌, ◌+◌, ◌*◌, ◌^◌, ◌≤◌}
use Rattle.fixed_core.proofs.mantissa.stripped.Given as goal

abbrev pub invariant-loop-value : goal.invariant-loop-value
invariant-loop-value l = record { same : l.number ≡ l.value * 10 ^ l.zeros; few : l.zeros + l.value ≤ l.number }

abbrev pub decreases-loop-value : goal.decreases-loop-value
decreases-loop-value l = l.value
