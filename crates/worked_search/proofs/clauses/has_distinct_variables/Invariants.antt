use Rattle.std.proofs.Common.{◌≡◌, ◌≢◌, ℕ, ◌<◌, get_or, length}
use Rattle.literals_core.specs.Literal.{variable_of}
use Rattle.worked_search.proofs.clauses.has_distinct_variables.Given as goal

abbrev pub invariant-loop-i : goal.invariant-loop-i
invariant-loop-i l = (a b : ℕ) → a < l.i → a < b → b < length l.clause → variable_of (get_or l.clause a 0) ≢ variable_of (get_or l.clause b 0)

abbrev pub invariant-loop-j : goal.invariant-loop-j
invariant-loop-j l = (b : ℕ) → l.i < b → b < l.j → variable_of (get_or l.clause l.i 0) ≢ variable_of (get_or l.clause b 0)
