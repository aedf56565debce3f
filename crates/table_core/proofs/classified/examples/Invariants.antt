use Rattle.std.proofs.Common.{length}
use Rattle.table_core.proofs.ExampleFacts.{ReadSo}
use Rattle.table_core.proofs.classified.examples.Given as goal

abbrev pub invariant-loop-examples : goal.invariant-loop-examples
invariant-loop-examples l = ReadSo l.problem l.fn.table l.table l.examples

abbrev pub decreases-loop-examples : goal.decreases-loop-examples
decreases-loop-examples l = length l.table.left
