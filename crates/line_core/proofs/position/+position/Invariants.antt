use Rattle.std.proofs.Common.{length}
use Rattle.line_core.proofs.position.+position.Given as goal

abbrev pub decreases-position : goal.decreases-position
decreases-position l = length l.words.now
