use Rattle.std.proofs.Common.{◌++◌, ◌/◌, ◌%◌, ◌^◌}
use Rattle.std.specs.Prelude.{decimal}
use Rattle.fixed_core.specs.Spelling.{sign_text, point_digits}
use Rattle.lists_core.proofs.PutsFacts.{puts-then, puts-cut, puts-failed}
use Rattle.fixed_core.proofs.spelling.put_signed.Goals as goal

pub returns-in_err-put_sign : goal.returns-in_err-put_sign
returns-in_err-put_sign c = puts-failed _ _ _ c.from_residual.result c.from_residual.ensures.0 (puts-cut _ _ _ _ c.in_err-put_sign.ensures)

pub returns-in_err-put_whole : goal.returns-in_err-put_whole
returns-in_err-put_whole c =
    puts-then _ _ _ c.in_ok-put_sign.ensures _ _ c.from_residual-in_err-put_whole.result
    (puts-failed _ _ _ c.from_residual-in_err-put_whole.result c.from_residual-in_err-put_whole.ensures.0 (puts-cut _ _ _ _ c.in_err-put_whole.ensures))

pub returns : goal.returns
returns c =
    puts-then c.args.out.now.items c.put_sign.new.out.items (sign_text c.args.negative) c.in_ok-put_sign.ensures _ (decimal (c.args.units / 10 ^ 18) ++ point_digits (c.args.units % 10 ^ 18)) c.put_point.result
    (puts-then c.put_sign.new.out.items c.put_whole.new.out.items (decimal (c.args.units / 10 ^ 18)) c.in_ok-put_whole.ensures _ (point_digits (c.args.units % 10 ^ 18)) c.put_point.result c.put_point.ensures)
