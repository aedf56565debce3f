use Rattle.std.proofs.Common.{◌≡◌, ℕ, List, [], length, get_or, map, sym, ap, subst, ◌∙◌, arith}
use Rattle.literals_core.specs.Formula.{plus}
use Rattle.accepted_core.specs.Takes.{CanTake}
use Rattle.accepted_core.proofs.TakesFacts.{can_take_next}
use Rattle.coalition_core.specs.Plain.{good_clauses}
use Rattle.coalition_core.proofs.members.add_goods.Goals as goal

pub add_good-requires-clause-fits : goal.add_good-requires-clause-fits
add_good-requires-clause-fits c =
    let rows : List (List ℕ) = c.args.rows.now in
    let is : c.deref.result.now ≡ map plus (get_or rows c.loop-a.a []) = c.deref.ensures.value ∙ c.in_ok-with_plus.ensures ∙ ap (map plus) c.row.ensures in
    subst (λ xs. CanTake c.loop-a.formula (good_clauses c.args.first xs)) (sym is)
    (can_take_next c.args.formula.now c.loop-a.formula (λ k. good_clauses c.args.first (map plus (get_or rows k []))) (length rows) c.loop-a.a c.requires.fits c.loop-a.invariant (omega arith))
