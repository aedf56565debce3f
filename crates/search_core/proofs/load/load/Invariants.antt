use Rattle.std.proofs.Common.{◌≡◌, take}
use Rattle.watch_core.specs.Trail.{empty_trail}
use Rattle.search_core.specs.Inner.{outer_clauses}
use Rattle.search_core.proofs.load.load.Given as goal

abbrev pub invariant-loop-k : goal.invariant-loop-k
invariant-loop-k l = record {
  clauses : outer_clauses l.watched.clauses ≡ take l.k l.formula.clauses;
  trail : l.watched.trail ≡ empty_trail l.formula.variables;
}
