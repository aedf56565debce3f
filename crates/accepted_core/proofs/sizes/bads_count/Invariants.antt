use Rattle.std.proofs.Common.{◌≡◌, ◌≤◌, take, length}
use Rattle.accepted_core.specs.Sizes.{bad_ones}
use Rattle.accepted_core.proofs.sizes.bads_count.Given as goal

abbrev pub invariant-loop-row : goal.invariant-loop-row
invariant-loop-row l = (l.n ≡ length (bad_ones l.categories (take l.row l.examples))) × (l.n ≤ l.row)
