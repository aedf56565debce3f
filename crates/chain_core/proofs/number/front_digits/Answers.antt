use Rattle.std.proofs.Common.{arith, sym, ap, ◌∙◌, ◌+◌, ◌*◌, min}
use Rattle.chain_core.proofs.NumberLemmas.{digit_more}
use Rattle.chain_core.proofs.number.front_digits.Goals as goal

pub loop-len-preserved : goal.loop-len-preserved
loop-len-preserved c =
    let more = digit_more c.args.text.now c.loop-len.len c.loop-len.value c.loop-len-test.true c.loop-len.invariant.digits (sym c.if-is_ascii_digit.ensures.value) c.loop-len.invariant.value in
    record {
      within = omega (arith, c.loop-len-test.true);
      digits = more.0;
      value = c.min-value.ensures ∙ ap (λ d. min (10 * c.loop-len.value + d) 4294967296) c.from.ensures ∙ more.1;
    }
