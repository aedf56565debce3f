use Rattle.std.proofs.Common.{ℕ, ◌+◌, ◌-◌, ◌<◌, ◌≤◌, List, [], ◌∷◌, arith}
use Rattle.literals_core.specs.Literal.{variable_of}
use Rattle.literals_core.specs.Formula.{Cnf}
use Rattle.literals_core.specs.Formula.{plus, minus}
use Rattle.accepted_core.specs.Takes.{CanTake}
use Rattle.accepted_core.specs.Plain.{better_row}
use Rattle.accepted_core.proofs.TakesFacts.{TakesSo, can_take_next, can_add, CanAdd, InRange, minus_plus, two_same}
use Rattle.accepted_core.proofs.shared.add_better_row.Goals as goal

-- the clause at a place
abbrev clauses : ℕ → ℕ → ℕ → List (List ℕ)
clauses first count k = (minus (first + k) ∷ plus (first + k + 1) ∷ []) ∷ []

can_take : (formula now : Cnf) (first count k : ℕ) → CanTake formula (better_row first count) → TakesSo formula now (clauses first count) k → k < count - 1 → CanTake now (clauses first count k)
can_take formula now first count k can so lt = can_take_next formula now (clauses first count) (count - 1) k can so lt

ranges : (formula now : Cnf) (first count k : ℕ) → CanTake formula (better_row first count) → TakesSo formula now (clauses first count) k → k < count - 1 → InRange now (first + k) (first + k + 1) []
ranges formula now first count k can so lt = minus_plus now (first + k) (first + k + 1) [] (can_take formula now first count k can so lt)

adds : (formula now : Cnf) (first count k : ℕ) → CanTake formula (better_row first count) → TakesSo formula now (clauses first count) k → k < count - 1 → CanAdd now (minus (first + k) ∷ plus (first + k + 1) ∷ [])
adds formula now first count k can so lt = can_add now (minus (first + k) ∷ plus (first + k + 1) ∷ []) [] (can_take formula now first count k can so lt)

pub overflow_add-first : goal.overflow_add-first
overflow_add-first c = let r = ranges c.args.formula.now c.loop-k.formula c.args.first c.args.count c.loop-k.k c.requires c.loop-k.invariant (omega arith) in let x = r.first_small in omega (arith, x)

pub minus-requires-clause-from : goal.minus-requires-clause-from
minus-requires-clause-from c = let r = ranges c.args.formula.now c.loop-k.formula c.args.first c.args.count c.loop-k.k c.requires c.loop-k.invariant (omega arith) in let x = r.first in omega (arith, x)

pub minus-requires-clause-to : goal.minus-requires-clause-to
minus-requires-clause-to c = let r = ranges c.args.formula.now c.loop-k.formula c.args.first c.args.count c.loop-k.k c.requires c.loop-k.invariant (omega arith) in let x = r.first_small in omega (arith, x)

pub plus-requires-clause-to : goal.plus-requires-clause-to
plus-requires-clause-to c = let r = ranges c.args.formula.now c.loop-k.formula c.args.first c.args.count c.loop-k.k c.requires c.loop-k.invariant (omega arith) in let x = r.second_small in omega (arith, x)

pub add-requires-clause-range : goal.add-requires-clause-range
add-requires-clause-range c = let a = adds c.args.formula.now c.loop-k.formula c.args.first c.args.count c.loop-k.k c.requires c.loop-k.invariant (omega arith) in two_same (λ l. variable_of l ≤ c.loop-k.formula.variables) c.minus.result c.plus.result (minus (c.args.first + c.loop-k.k)) (plus (c.args.first + c.loop-k.k + 1)) c.minus.ensures c.plus.ensures a.range

pub add-requires-clause-room : goal.add-requires-clause-room
add-requires-clause-room c = let a = adds c.args.formula.now c.loop-k.formula c.args.first c.args.count c.loop-k.k c.requires c.loop-k.invariant (omega arith) in a.room
