use Rattle.fixed_core.proofs.DigitFacts.{digits_after_append, low_whole}
use Rattle.fixed_core.proofs.NumeralFacts.{mantissa-start}
use Rattle.fixed_core.proofs.read.mantissa_of.Goals as goal

pub returns-then-whole-fraction-le-SHORT_DIGITS-clause-tracks : goal.returns-then-whole-fraction-le-SHORT_DIGITS-clause-tracks
returns-then-whole-fraction-le-SHORT_DIGITS-clause-tracks c =
    rw (low_whole c.args.whole.now c.args.fraction.now c.requires.whole c.requires.fraction c.if-whole-fraction-le-SHORT_DIGITS.true, ← c.requires.low) c.stripped.ensures.tracks

pub returns-clause-tracks : goal.returns-clause-tracks
returns-clause-tracks c =
    rw (digits_after_append 0 c.args.whole.now c.args.fraction.now) (c.push_digits-2.ensures.tracks _ (c.push_digits.ensures.tracks 0 mantissa-start))
