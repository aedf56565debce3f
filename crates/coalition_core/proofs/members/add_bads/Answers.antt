use Rattle.std.proofs.Common.{◌≡◌, ℕ, List, [], length, get_or, map, sym, ap, subst, ◌∙◌, arith}
use Rattle.literals_core.specs.Formula.{minus}
use Rattle.accepted_core.specs.Takes.{CanTake}
use Rattle.accepted_core.proofs.TakesFacts.{can_take_next}
use Rattle.coalition_core.specs.Plain.{bad_clauses}
use Rattle.coalition_core.proofs.members.add_bads.Goals as goal

pub add_bad-requires-clause-fits : goal.add_bad-requires-clause-fits
add_bad-requires-clause-fits c =
    let rows : List (List ℕ) = c.args.rows.now in
    let is : c.deref.result.now ≡ map minus (get_or rows c.loop-b.b []) = c.deref.ensures.value ∙ c.in_ok-with_minus.ensures ∙ ap (map minus) c.row.ensures in
    subst (λ xs. CanTake c.loop-b.formula (bad_clauses c.args.first xs)) (sym is)
    (can_take_next c.args.formula.now c.loop-b.formula (λ k. bad_clauses c.args.first (map minus (get_or rows k []))) (length rows) c.loop-b.b c.requires.fits c.loop-b.invariant (omega arith))
