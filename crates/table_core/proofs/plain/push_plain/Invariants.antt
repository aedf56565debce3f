use Rattle.std.proofs.Common.{length}
use Rattle.table_core.proofs.PlainFacts.{IsPushed}
use Rattle.table_core.proofs.plain.push_plain.Given as goal

-- the bytes before the rest were appended
abbrev pub invariant-loop-block : goal.invariant-loop-block
invariant-loop-block l = IsPushed l.field l.rest l.fn.text l.text

abbrev pub decreases-loop-block : goal.decreases-loop-block
decreases-loop-block l = length l.rest
