use Rattle.std.proofs.Common.{arith, ◌≤◌, length}
use Rattle.std.proofs.lemmas.Str.Parse.{digit_at}
use Rattle.std.proofs.lemmas.List.{take_all}
use Rattle.fixed_core.proofs.DigitFacts.{digits_after_more}
use Rattle.fixed_core.proofs.mantissa.push_digits.Goals as goal

pub overflow_sub-c : goal.overflow_sub-c
overflow_sub-c c = let h = digit_at c.args.digits.now c.loop-c.c-index c.requires.digits (omega arith) in omega arith

pub push_digit-m-requires-clause-digit : goal.push_digit-m-requires-clause-digit
push_digit-m-requires-clause-digit c = let h = digit_at c.args.digits.now c.loop-c.c-index c.requires.digits (omega arith) in omega arith

pub push_digit-m-requires-clause-room : goal.push_digit-m-requires-clause-room
push_digit-m-requires-clause-room c = omega (arith, c.loop-c.invariant.zeros)

pub loop-c-preserved : goal.loop-c-preserved
loop-c-preserved c = record {
  tracks = λ n h. rw (digits_after_more n c.args.digits.now c.loop-c.c-index c.requires.digits (omega arith)) (c.push_digit-m.ensures.tracks _ (c.loop-c.invariant.tracks n h));
  zeros = omega (arith, c.loop-c.invariant.zeros, c.push_digit-m.ensures.zeros);
}

pub returns-clause-tracks : goal.returns-clause-tracks
returns-clause-tracks c = λ n h.
    let past : length c.args.digits.now ≤ c.loop-c.c-index = omega arith in
    rw take_all at (c.loop-c.invariant.tracks n h)

pub returns-clause-zeros : goal.returns-clause-zeros
returns-clause-zeros c = omega (arith, c.loop-c.invariant.zeros)
