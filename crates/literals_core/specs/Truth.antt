-- Which literals are true and which are false under a set of literals.
use Rattle.std.specs.Prelude.{ℕ, ◌==◌, Bool, not, List, Contains, filter}
use Rattle.std.specs.List.{list_any}
use Rattle.literals_core.specs.Literal.{negation}

-- a literal is true under a set that has it, and false under a set that has its negation
abbrev pub IsTrueUnder : List ℕ → ℕ → Type 0
IsTrueUnder set l = Contains set l

abbrev pub IsFalseUnder : List ℕ → ℕ → Type 0
IsFalseUnder set l = Contains set (negation l)

-- the same as computations
abbrev pub is_true : List ℕ → ℕ → Bool
is_true set l = list_any (λ x. x == l) set

abbrev pub is_false : List ℕ → ℕ → Bool
is_false set l = is_true set (negation l)

-- the literals of a clause that are not false
abbrev pub open_literals : List ℕ → List ℕ → List ℕ
open_literals set clause = filter (λ l. not (is_false set l)) clause
