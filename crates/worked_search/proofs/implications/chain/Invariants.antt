use Rattle.std.specs.List.{All}
use Rattle.literals_core.specs.DistinctVariables.{HasDistinctVariables}
use Rattle.worked_search.proofs.implications.chain.Given as goal

abbrev pub invariant-loop-place : goal.invariant-loop-place
invariant-loop-place l = All HasDistinctVariables l.formula.clauses
