use Rattle.std.proofs.Common.{◌≡◌, true, get_or, sym, ◌∙◌, arith, length, take}
use Rattle.std.specs.Char.{is_ascii_digit}
use Rattle.std.proofs.lemmas.List.{take_all}
use Rattle.fixed_core.specs.Numeral.{digits_len}
use Rattle.fixed_core.proofs.DigitFacts.{other_at, other_none, low_more, digits_more, digit_code}
use Rattle.fixed_core.proofs.NumeralFacts.{first_other}
use Rattle.fixed_core.proofs.numeral.count_digits.Goals as goal

-- the digits end at the byte that the loop has come to
ends_here : (c : goal.Then-not-is_ascii_digit) → digits_len c.args.text.now ≡ c.loop-k.k
ends_here c = first_other c.args.text.now ∙ other_at c.args.text.now c.loop-k.k c.loop-k.invariant.digits c.loop-k-test.true (sym c.is_ascii_digit.ensures.value ∙ c.if-not-is_ascii_digit.true)

pub returns-then-not-is_ascii_digit-clause-len : goal.returns-then-not-is_ascii_digit-clause-len
returns-then-not-is_ascii_digit-clause-len c = sym (ends_here c)

pub returns-then-not-is_ascii_digit-clause-low : goal.returns-then-not-is_ascii_digit-clause-low
returns-then-not-is_ascii_digit-clause-low c = rw (ends_here c) c.loop-k.invariant.low

pub loop-k-preserved : goal.loop-k-preserved
loop-k-preserved c =
    let digit : is_ascii_digit (get_or c.args.text.now c.loop-k.k 0) ≡ true = sym c.is_ascii_digit.ensures.value ∙ c.if-not-is_ascii_digit.false in
    record {
      digits = digits_more c.args.text.now c.loop-k.k c.loop-k.invariant.digits c.loop-k-test.true digit;
      low = low_more c.args.start c.args.text.now c.loop-k.k c.loop-k.low c.from.result c.loop-k.invariant.low c.loop-k-test.true (digit_code _ _ digit c.from.ensures);
    }

-- the whole text was digits
whole_text : (c : goal.After-loop-k) → take c.loop-k.k c.args.text.now ≡ c.args.text.now
whole_text c = take_all c.loop-k.k c.args.text.now (omega (arith, c.loop-k-test.false))

all_in_front : (c : goal.After-loop-k) → digits_len c.args.text.now ≡ length c.args.text.now
all_in_front c = first_other c.args.text.now ∙ other_none c.args.text.now (rw (whole_text c) at c.loop-k.invariant.digits)

pub returns-clause-len : goal.returns-clause-len
returns-clause-len c = sym (all_in_front c)

pub returns-clause-low : goal.returns-clause-low
returns-clause-low c =
    let all : take (length c.args.text.now) c.args.text.now ≡ c.args.text.now = take_all (length c.args.text.now) c.args.text.now (omega arith) in
    rw (all_in_front c, all) (rw (whole_text c) at c.loop-k.invariant.low)
