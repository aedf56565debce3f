use Rattle.std.proofs.Common.{length, sym, ap, arith}
use Rattle.std.proofs.lemmas.Fmt.{decimal_digit}
use Rattle.stream_core.proofs.Digits.{count_exact}
use Rattle.stream_core.proofs.piece.digit_count.Goals as goal

pub returns-in-0-to-9-clause-digits : goal.returns-in-0-to-9-clause-digits
returns-in-0-to-9-clause-digits c = sym (ap length (decimal_digit c.args.number (omega arith)))

pub returns-in-10-to-99-clause-digits : goal.returns-in-10-to-99-clause-digits
returns-in-10-to-99-clause-digits c = sym (count_exact 1 c.args.number (omega arith) (omega arith) (omega arith))

pub returns-in-100-to-999-clause-digits : goal.returns-in-100-to-999-clause-digits
returns-in-100-to-999-clause-digits c = sym (count_exact 2 c.args.number (omega arith) (omega arith) (omega arith))

pub returns-in-1000-to-9999-clause-digits : goal.returns-in-1000-to-9999-clause-digits
returns-in-1000-to-9999-clause-digits c = sym (count_exact 3 c.args.number (omega arith) (omega arith) (omega arith))

pub returns-in_default-clause-digits : goal.returns-in_default-clause-digits
returns-in_default-clause-digits c = sym (count_exact 4 c.args.number (omega arith) (omega arith) (omega arith))

pub returns-in-0-to-999999-clause-digits : goal.returns-in-0-to-999999-clause-digits
returns-in-0-to-999999-clause-digits c = sym (count_exact 5 c.args.number (omega arith) (omega arith) (omega arith))

pub returns-in-1000000-to-9999999-clause-digits : goal.returns-in-1000000-to-9999999-clause-digits
returns-in-1000000-to-9999999-clause-digits c = sym (count_exact 6 c.args.number (omega arith) (omega arith) (omega arith))

pub returns-in-10000000-to-99999999-clause-digits : goal.returns-in-10000000-to-99999999-clause-digits
returns-in-10000000-to-99999999-clause-digits c = sym (count_exact 7 c.args.number (omega arith) (omega arith) (omega arith))

pub returns-in-100000000-to-999999999-clause-digits : goal.returns-in-100000000-to-999999999-clause-digits
returns-in-100000000-to-999999999-clause-digits c = sym (count_exact 8 c.args.number (omega arith) (omega arith) (omega arith))

pub returns-in_default-number-clause-digits : goal.returns-in_default-number-clause-digits
returns-in_default-number-clause-digits c = sym (count_exact 9 c.args.number (omega arith) (omega arith) (omega arith))
