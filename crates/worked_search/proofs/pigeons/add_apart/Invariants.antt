use Rattle.std.specs.List.{All}
use Rattle.literals_core.specs.DistinctVariables.{HasDistinctVariables}
use Rattle.worked_search.proofs.pigeons.add_apart.Given as goal

abbrev pub invariant-loop-first : goal.invariant-loop-first
invariant-loop-first l = All HasDistinctVariables l.formula.clauses
