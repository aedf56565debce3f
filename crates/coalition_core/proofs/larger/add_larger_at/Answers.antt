use Rattle.std.proofs.Common.{◌+◌, ◌^◌, ◌≤◌, sym, ap, ◌∙◌, arith}
use Rattle.literals_core.specs.Literal.{variable_of}
use Rattle.literals_core.specs.Formula.{plus, minus}
use Rattle.accepted_core.proofs.TakesFacts.{two_same}
use Rattle.coalition_core.proofs.LargerFacts.{larger_ranges, larger_adds}
use Rattle.coalition_core.proofs.larger.add_larger_at.Goals as goal

pub overflow_add-first : goal.overflow_add-first
overflow_add-first c = let r = larger_ranges c.args.formula.now c.args.first c.args.set c.args.i c.requires.fits (sym c.has.ensures ∙ c.if-has.false) in let x = r.first_small in omega (arith, x)

pub minus-requires-clause-from : goal.minus-requires-clause-from
minus-requires-clause-from c = let r = larger_ranges c.args.formula.now c.args.first c.args.set c.args.i c.requires.fits (sym c.has.ensures ∙ c.if-has.false) in let x = r.first in omega (arith, x)

pub minus-requires-clause-to : goal.minus-requires-clause-to
minus-requires-clause-to c = let r = larger_ranges c.args.formula.now c.args.first c.args.set c.args.i c.requires.fits (sym c.has.ensures ∙ c.if-has.false) in let x = r.first_small in omega (arith, x)

pub plus-requires-clause-to : goal.plus-requires-clause-to
plus-requires-clause-to c =
    let r = larger_ranges c.args.formula.now c.args.first c.args.set c.args.i c.requires.fits (sym c.has.ensures ∙ c.if-has.false) in
    let x = r.second_small in
    let p = c.power.ensures.value in
    omega (arith, x, p)

pub add-requires-clause-range : goal.add-requires-clause-range
add-requires-clause-range c =
    let a = larger_adds c.args.formula.now c.args.first c.args.set c.args.i c.requires.fits (sym c.has.ensures ∙ c.if-has.false) in
    two_same (λ l. variable_of l ≤ c.args.formula.now.variables) c.minus.result c.plus.result (minus (c.args.first + c.args.set)) (plus (c.args.first + (c.args.set + 2 ^ c.args.i)))
    c.minus.ensures (c.plus.ensures ∙ ap (λ p. plus (c.args.first + (c.args.set + p))) c.power.ensures.value) a.range
