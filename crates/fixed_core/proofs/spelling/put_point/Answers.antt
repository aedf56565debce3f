use Rattle.std.proofs.lemmas.Bool.{ne_eqb}
use Rattle.lists_core.proofs.PutsFacts.{puts-then, puts-cut, puts-failed}
use Rattle.fixed_core.proofs.spelling.put_point.Goals as goal

pub returns-in_err-put_byte : goal.returns-in_err-put_byte
returns-in_err-put_byte c =
    rw (ne_eqb c.args.rest 0 c.if-rest-eq0.false) (puts-failed _ _ _ c.from_residual.result c.from_residual.ensures.0 (puts-cut _ _ _ _ c.in_err-put_byte.ensures))

pub returns : goal.returns
returns c = rw (ne_eqb c.args.rest 0 c.if-rest-eq0.false) (puts-then _ _ _ c.in_ok-put_byte.ensures _ _ c.put_digits.result c.put_digits.ensures)
