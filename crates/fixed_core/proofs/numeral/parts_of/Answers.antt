use Rattle.std.proofs.Common.{◌≢◌, length, ◌+◌, sym, arith}
use Rattle.std.proofs.lemmas.Bool.{eqb-true, eqb-false}
use Rattle.fixed_core.proofs.DigitFacts.{low_joined}
use Rattle.fixed_core.proofs.NumeralFacts.{numeral-none, numeral-some}
use Rattle.fixed_core.proofs.numeral.parts_of.Goals as goal
use Rattle.fixed_core.proofs.numeral.parts_of.Goals.{else-is_empty-via-then-is_empty+else-is_empty-2, else-is_empty-via-else-is_empty}

pub returns-then-is_empty-2-clause-value : goal.returns-then-is_empty-2-clause-value
returns-then-is_empty-2-clause-value c =
    sym (numeral-none c.args.text.now c.split_sign-negative.result.1.now c.split_digits-low.result.0.now c.split_digits-low.result.1.now c.split_fraction-low.result.0.now c.split_fraction-low.result.1.now
    c.split_sign-negative.ensures.rest c.split_digits-low.ensures.digits c.split_digits-low.ensures.rest c.split_fraction-low.ensures.digits
    (eqb-true _ 0 (sym c.if-is_empty.ensures)) (eqb-true _ 0 (sym c.if-is_empty-2.ensures)))

pub returns-in_err-lowers-clause-value : goal.returns-in_err-lowers-clause-value
returns-in_err-lowers-clause-value c =
    let some : length c.split_digits-low.result.0.now + length c.split_fraction-low.result.0.now ≢ 0 = λ e. elim c.else-is_empty.branch [
      | else-is_empty-via-then-is_empty+else-is_empty-2 w ↦ eqb-false _ 0 (sym w.if-is_empty-2.ensures) (omega arith)
      | else-is_empty-via-else-is_empty w ↦ eqb-false _ 0 (sym w.if-is_empty.ensures) (omega arith)
    ] in
    let is = numeral-some c.args.text.now c.split_sign-negative.result.1.now c.split_digits-low.result.0.now c.split_digits-low.result.1.now c.split_fraction-low.result.0.now c.split_fraction-low.result.1.now
    c.split_sign-negative.ensures.rest c.split_digits-low.ensures.digits c.split_digits-low.ensures.rest c.split_fraction-low.ensures.digits some c.split_fraction-low.ensures.rest in
    rw c.from_residual.ensures (sym (rw (← c.in_err-lowers.ensures.value) at is))

pub returns-clause-value : goal.returns-clause-value
returns-clause-value c =
    let some : length c.split_digits-low.result.0.now + length c.split_fraction-low.result.0.now ≢ 0 = λ e. elim c.else-is_empty.branch [
      | else-is_empty-via-then-is_empty+else-is_empty-2 w ↦ eqb-false _ 0 (sym w.if-is_empty-2.ensures) (omega arith)
      | else-is_empty-via-else-is_empty w ↦ eqb-false _ 0 (sym w.if-is_empty.ensures) (omega arith)
    ] in
    let is = numeral-some c.args.text.now c.split_sign-negative.result.1.now c.split_digits-low.result.0.now c.split_digits-low.result.1.now c.split_fraction-low.result.0.now c.split_fraction-low.result.1.now
    c.split_sign-negative.ensures.rest c.split_digits-low.ensures.digits c.split_digits-low.ensures.rest c.split_fraction-low.ensures.digits some c.split_fraction-low.ensures.rest in
    sym (rw (← c.in_ok-lowers.ensures.value, ← c.split_sign-negative.ensures.sign) at is)

pub returns-clause-low : goal.returns-clause-low
returns-clause-low c =
    low_joined c.split_digits-low.result.0.now c.split_fraction-low.result.0.now c.split_digits-low.result.2 c.split_fraction-low.result.2 c.split_digits-low.ensures.low c.split_fraction-low.ensures.low
