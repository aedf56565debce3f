use Rattle.std.proofs.Common.{ℕ, ◌+◌, ◌^◌, List, length, ap, ◌∙◌, arith}
use Rattle.literals_core.specs.Formula.{minus}
use Rattle.coalition_core.specs.Plain.{set_clause}
use Rattle.coalition_core.proofs.LargerFacts.{adds_listed}
use Rattle.coalition_core.proofs.members.add_bad.Goals as goal

pub add-requires-clause-range : goal.add-requires-clause-range
add-requires-clause-range c =
    let literals : List ℕ = c.args.literals.now in
    let a = adds_listed c.args.formula.now c.loop-set.formula (λ set. set_clause literals set (minus (c.args.first + set))) (2 ^ length literals) c.loop-set.set c.deref.result.now c.requires.fits c.loop-set.invariant (omega arith)
    (c.deref.ensures.value ∙ c.in_ok-set_clause.ensures ∙ ap (set_clause literals c.loop-set.set) c.minus.ensures) in
    a.range

pub add-requires-clause-room : goal.add-requires-clause-room
add-requires-clause-room c =
    let literals : List ℕ = c.args.literals.now in
    let a = adds_listed c.args.formula.now c.loop-set.formula (λ set. set_clause literals set (minus (c.args.first + set))) (2 ^ length literals) c.loop-set.set c.deref.result.now c.requires.fits c.loop-set.invariant (omega arith)
    (c.deref.ensures.value ∙ c.in_ok-set_clause.ensures ∙ ap (set_clause literals c.loop-set.set) c.minus.ensures) in
    a.room
