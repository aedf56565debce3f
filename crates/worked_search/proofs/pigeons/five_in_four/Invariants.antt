use Rattle.std.specs.List.{All}
use Rattle.literals_core.specs.DistinctVariables.{HasDistinctVariables}
use Rattle.worked_search.proofs.pigeons.five_in_four.Given as goal

abbrev pub invariant-loop-numbers : goal.invariant-loop-numbers
invariant-loop-numbers l = All HasDistinctVariables l.formula.clauses

abbrev pub invariant-loop-hole : goal.invariant-loop-hole
invariant-loop-hole l = All HasDistinctVariables l.formula.clauses

abbrev pub invariant-loop-first : goal.invariant-loop-first
invariant-loop-first l = All HasDistinctVariables l.formula.clauses
