use Rattle.std.proofs.Common.{◌≡◌, ℕ, ◌+◌, ◌<◌, ◌≤◌, List, [], ◌∷◌, ◌++◌, length, get_or, ap, ◌∙◌, arith}
use Rattle.literals_core.specs.Literal.{variable_of}
use Rattle.literals_core.specs.Formula.{Cnf}
use Rattle.literals_core.specs.Formula.{plus, minus}
use Rattle.encoding_rules.specs.Each.{each}
use Rattle.accepted_core.specs.Takes.{CanTake}
use Rattle.separation_core.specs.Plain.{both_of}
use Rattle.accepted_core.proofs.TakesFacts.{TakesSo, can_take_next, can_take_rest, can_add, CanAdd, InRange, minus_plus, minus_minus, two_same}
use Rattle.separation_core.proofs.pairs.add_both.Goals as goal

module _ (formula now : Cnf) (first : ℕ) (good bad : List ℕ) (i : ℕ) (can : CanTake formula (each (both_of first good bad) (length good))) (so : TakesSo formula now (both_of first good bad) i) (lt : i < length good) where
  abbrev good_clause : List ℕ
  good_clause = minus (first + i) ∷ plus (get_or good i 0) ∷ []

  abbrev bad_clause : List ℕ
  bad_clause = minus (first + i) ∷ minus (get_or bad i 0) ∷ []

  can_both : CanTake now (good_clause ∷ bad_clause ∷ [])
  can_both = can_take_next formula now (both_of first good bad) (length good) i can so lt

  good_ranges : InRange now (first + i) (get_or good i 0) (bad_clause ∷ [])
  good_ranges = minus_plus now (first + i) (get_or good i 0) (bad_clause ∷ []) can_both

  good_adds : CanAdd now good_clause
  good_adds = can_add now good_clause (bad_clause ∷ []) can_both

  module _ (next : Cnf) (v : next.variables ≡ now.variables) (e : next.clauses ≡ now.clauses ++ good_clause ∷ []) where
    can_bad : CanTake next (bad_clause ∷ [])
    can_bad = can_take_rest now next good_clause (bad_clause ∷ []) can_both v e

    bad_ranges : InRange next (first + i) (get_or bad i 0) []
    bad_ranges = minus_minus next (first + i) (get_or bad i 0) [] can_bad

    bad_adds : CanAdd next bad_clause
    bad_adds = can_add next bad_clause [] can_bad

pub overflow_add-first : goal.overflow_add-first
overflow_add-first c = let r = good_ranges c.args.formula.now c.loop-i.formula c.args.first c.args.good.now c.args.bad.now c.loop-i.i c.requires.fits c.loop-i.invariant (omega arith) in let x = r.first_small in omega (arith, x)

pub minus-separates-requires-clause-from : goal.minus-separates-requires-clause-from
minus-separates-requires-clause-from c = let r = good_ranges c.args.formula.now c.loop-i.formula c.args.first c.args.good.now c.args.bad.now c.loop-i.i c.requires.fits c.loop-i.invariant (omega arith) in let x = r.first in omega (arith, x)

pub minus-separates-requires-clause-to : goal.minus-separates-requires-clause-to
minus-separates-requires-clause-to c = let r = good_ranges c.args.formula.now c.loop-i.formula c.args.first c.args.good.now c.args.bad.now c.loop-i.i c.requires.fits c.loop-i.invariant (omega arith) in let x = r.first_small in omega (arith, x)

pub plus-requires-clause-from : goal.plus-requires-clause-from
plus-requires-clause-from c = let r = good_ranges c.args.formula.now c.loop-i.formula c.args.first c.args.good.now c.args.bad.now c.loop-i.i c.requires.fits c.loop-i.invariant (omega arith) in let x = r.second in omega (arith, x)

pub plus-requires-clause-to : goal.plus-requires-clause-to
plus-requires-clause-to c = let r = good_ranges c.args.formula.now c.loop-i.formula c.args.first c.args.good.now c.args.bad.now c.loop-i.i c.requires.fits c.loop-i.invariant (omega arith) in let x = r.second_small in omega (arith, x)

pub add-requires-clause-range : goal.add-requires-clause-range
add-requires-clause-range c = let a = good_adds c.args.formula.now c.loop-i.formula c.args.first c.args.good.now c.args.bad.now c.loop-i.i c.requires.fits c.loop-i.invariant (omega arith) in two_same (λ l. variable_of l ≤ c.loop-i.formula.variables) c.minus-separates.result c.plus.result (minus (c.args.first + c.loop-i.i)) (plus (get_or c.args.good.now c.loop-i.i 0)) c.minus-separates.ensures c.plus.ensures a.range

pub add-requires-clause-room : goal.add-requires-clause-room
add-requires-clause-room c = let a = good_adds c.args.formula.now c.loop-i.formula c.args.first c.args.good.now c.args.bad.now c.loop-i.i c.requires.fits c.loop-i.invariant (omega arith) in a.room

-- the clauses after the first of the two
after : (now next : List (List ℕ)) (l m x y : ℕ) → next ≡ now ++ (l ∷ m ∷ []) ∷ [] → l ≡ x → m ≡ y → next ≡ now ++ (x ∷ y ∷ []) ∷ []
after now next l m x y e f g = e ∙ ap (λ n. now ++ (n ∷ m ∷ []) ∷ []) f ∙ ap (λ n. now ++ (x ∷ n ∷ []) ∷ []) g

pub minus-requires-clause-from : goal.minus-requires-clause-from
minus-requires-clause-from c = let r = bad_ranges c.args.formula.now c.loop-i.formula c.args.first c.args.good.now c.args.bad.now c.loop-i.i c.requires.fits c.loop-i.invariant (omega arith) c.add.new.self c.add.ensures.variables (after c.loop-i.formula.clauses c.add.new.self.clauses c.minus-separates.result c.plus.result (minus (c.args.first + c.loop-i.i)) (plus (get_or c.args.good.now c.loop-i.i 0)) c.in_ok-add.ensures.ok c.minus-separates.ensures c.plus.ensures) in let x = r.second in omega (arith, x)

pub minus-requires-clause-to : goal.minus-requires-clause-to
minus-requires-clause-to c = let r = bad_ranges c.args.formula.now c.loop-i.formula c.args.first c.args.good.now c.args.bad.now c.loop-i.i c.requires.fits c.loop-i.invariant (omega arith) c.add.new.self c.add.ensures.variables (after c.loop-i.formula.clauses c.add.new.self.clauses c.minus-separates.result c.plus.result (minus (c.args.first + c.loop-i.i)) (plus (get_or c.args.good.now c.loop-i.i 0)) c.in_ok-add.ensures.ok c.minus-separates.ensures c.plus.ensures) in let x = r.second_small in omega (arith, x)

pub add-requires-in-loop-i-clause-range : goal.add-requires-in-loop-i-clause-range
add-requires-in-loop-i-clause-range c = let a = bad_adds c.args.formula.now c.loop-i.formula c.args.first c.args.good.now c.args.bad.now c.loop-i.i c.requires.fits c.loop-i.invariant (omega arith) c.add.new.self c.add.ensures.variables (after c.loop-i.formula.clauses c.add.new.self.clauses c.minus-separates.result c.plus.result (minus (c.args.first + c.loop-i.i)) (plus (get_or c.args.good.now c.loop-i.i 0)) c.in_ok-add.ensures.ok c.minus-separates.ensures c.plus.ensures) in two_same (λ l. variable_of l ≤ c.add.new.self.variables) c.minus-separates.result c.minus.result (minus (c.args.first + c.loop-i.i)) (minus (get_or c.args.bad.now c.loop-i.i 0)) c.minus-separates.ensures c.minus.ensures a.range

pub add-requires-in-loop-i-clause-room : goal.add-requires-in-loop-i-clause-room
add-requires-in-loop-i-clause-room c = let a = bad_adds c.args.formula.now c.loop-i.formula c.args.first c.args.good.now c.args.bad.now c.loop-i.i c.requires.fits c.loop-i.invariant (omega arith) c.add.new.self c.add.ensures.variables (after c.loop-i.formula.clauses c.add.new.self.clauses c.minus-separates.result c.plus.result (minus (c.args.first + c.loop-i.i)) (plus (get_or c.args.good.now c.loop-i.i 0)) c.in_ok-add.ensures.ok c.minus-separates.ensures c.plus.ensures) in a.room
