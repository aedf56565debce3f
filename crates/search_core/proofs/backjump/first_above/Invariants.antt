use Rattle.std.proofs.Common.{◌≤◌, ◌-◌, length}
use Rattle.search_core.proofs.backjump.first_above.Given as goal

abbrev pub invariant-loop-low : goal.invariant-loop-low
invariant-loop-low l = record {
  in_order : l.low ≤ l.high;
  most : l.high ≤ length l.trail.entries;
}

abbrev pub decreases-loop-low : goal.decreases-loop-low
decreases-loop-low l = l.high - l.low
