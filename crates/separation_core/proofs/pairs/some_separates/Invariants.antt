use Rattle.std.proofs.Common.{◌≡◌}
use Rattle.separation_core.specs.Plain.{some_of}
use Rattle.separation_core.proofs.pairs.some_separates.Given as goal

abbrev pub invariant-loop-i : goal.invariant-loop-i
invariant-loop-i l = l.clause.items ≡ some_of l.first l.i
