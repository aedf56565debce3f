use Rattle.std.proofs.Common.{◌≡◌, ◌≤◌, take, length}
use Rattle.accepted_core.specs.Sizes.{good_ones}
use Rattle.accepted_core.proofs.sizes.goods_count.Given as goal

abbrev pub invariant-loop-row : goal.invariant-loop-row
invariant-loop-row l = (l.n ≡ length (good_ones (take l.row l.examples))) × (l.n ≤ l.row)
