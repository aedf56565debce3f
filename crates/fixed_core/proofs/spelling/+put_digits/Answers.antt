use Rattle.std.proofs.Common.{sym, arith, ◌-◌, ◌^◌}
use Rattle.std.proofs.lemmas.List.{append-nil}
use Rattle.std.proofs.lemmas.Nat.{mod_below}
use Rattle.fixed_core.proofs.PowerFacts.{pow_least}
use Rattle.lists_core.proofs.PutsFacts.{puts-then, puts-cut, puts-failed}
use Rattle.fixed_core.proofs.SpellingFacts.{short-zero, has_place, short-more, first_place}
use Rattle.fixed_core.proofs.spelling.+put_digits.Goals as goal

pub returns-then-digits-eq0 : goal.returns-then-digits-eq0
returns-then-digits-eq0 t c = rw (c.if-digits-eq0.true, short-zero c.args.places) (sym (append-nil _))

pub nonzero_div-digits : goal.nonzero_div-digits
nonzero_div-digits t c = rw c.pow-power.ensures (pow_least (c.args.places - 1))

pub overflow_cast-digits : goal.overflow_cast-digits
overflow_cast-digits t c =
    let first = first_place c.args.places c.args.digits c.if-digits-eq0.false c.requires.fits in
    rw c.pow-power.ensures (record { fits = omega arith })

pub overflow_add-digits : goal.overflow_add-digits
overflow_add-digits t c =
    let first = first_place c.args.places c.args.digits c.if-digits-eq0.false c.requires.fits in
    rw c.pow-power.ensures (record { fits = omega arith })

pub returns-in_err-put_byte : goal.returns-in_err-put_byte
returns-in_err-put_byte t c =
    rw (short-more c.args.places c.args.digits c.if-digits-eq0.false c.requires.fits, ← c.pow-power.ensures)
    (puts-failed _ _ _ c.from_residual.result c.from_residual.ensures.0 (puts-cut _ _ _ _ c.in_err-put_byte.ensures))

pub nonzero_rem-digits : goal.nonzero_rem-digits
nonzero_rem-digits t c = rw c.pow-power.ensures (pow_least (c.args.places - 1))

pub put_digits-requires : goal.put_digits-requires
put_digits-requires t c =
    let some = has_place c.args.places c.args.digits c.if-digits-eq0.false c.requires.fits in
    (omega (arith, c.decreases, some), (omega (arith, c.requires.few), rw c.pow-power.ensures (mod_below c.args.digits (10 ^ (c.args.places - 1)) (pow_least (c.args.places - 1)))))

pub returns : goal.returns
returns t c =
    rw (short-more c.args.places c.args.digits c.if-digits-eq0.false c.requires.fits, ← c.pow-power.ensures)
    (puts-then _ _ _ c.in_ok-put_byte.ensures _ _ c.put_digits.result c.put_digits.ensures)
