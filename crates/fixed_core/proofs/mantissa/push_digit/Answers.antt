use Rattle.std.proofs.Common.{◌+◌, arith, true≢false, false, true}
use Rattle.std.proofs.lemmas.Bool.{false≢true}
use Rattle.fixed_core.proofs.MantissaFacts.{mantissa-zero, mantissa-digit, mantissa-least, mantissa-tens}
use Rattle.fixed_core.proofs.mantissa.push_digit.Goals as goal
use Rattle.fixed_core.proofs.mantissa.push_digit.Goals.{else-not-m-via-then-not-m+else-m-eq0, else-not-m-via-else-not-m}

pub returns-then-digit-eq0-clause-tracks : goal.returns-then-digit-eq0-clause-tracks
returns-then-digit-eq0-clause-tracks c = λ n h.
    rw c.if-digit-eq0.true
    (mantissa-zero n c.args.m
    (λ both. elim c.else-not-m.branch [
      | else-not-m-via-then-not-m+else-m-eq0 w ↦ w.if-m-eq0.false both.1
      | else-not-m-via-else-not-m w ↦ true≢false (rw both.0 at w.if-not-m.false)
    ])
    h)

pub returns-then-m-clause-tracks : goal.returns-then-m-clause-tracks
returns-then-m-clause-tracks c = λ n h.
    mantissa-digit n c.args.digit c.args.m.value true c.if-digit-eq0.false c.requires.digit (λ e. absurd (true≢false e)) (λ _. omega (arith, h.above c.if-m.true, mantissa-least n c.args.m h))

pub returns-in-Some-clause-tracks : goal.returns-in-Some-clause-tracks
returns-in-Some-clause-tracks c = λ n h.
    let tens = mantissa-tens n c.args.m h c.if-m.false in
    mantissa-digit n c.args.digit (c.in-Some.value + c.from-in-Some.result) false c.if-digit-eq0.false c.requires.digit
    (λ _. (omega (arith, tens, c.in-Some.ensures.0, c.from.ensures, c.from-in-Some.ensures), omega (arith, tens, c.in-Some.ensures.0, c.from.ensures, c.if-value-from-lt-LIMIT.true)))
    (λ e. absurd (false≢true e))

pub returns-in_default-clause-tracks : goal.returns-in_default-clause-tracks
returns-in_default-clause-tracks c = λ n h.
    let tens = mantissa-tens n c.args.m h c.if-m.false in
    mantissa-digit n c.args.digit 0 true c.if-digit-eq0.false c.requires.digit (λ e. absurd (true≢false e))
    (λ _. omega (arith, tens, c.in-Some.ensures.0, c.from.ensures, c.if-value-from-lt-LIMIT.false))

pub returns-in_default-2-clause-tracks : goal.returns-in_default-2-clause-tracks
returns-in_default-2-clause-tracks c = λ n h.
    let tens = mantissa-tens n c.args.m h c.if-m.false in
    mantissa-digit n c.args.digit 0 true c.if-digit-eq0.false c.requires.digit (λ e. absurd (true≢false e)) (λ _. omega (arith, tens, c.in_default.ensures))
