use Rattle.std.proofs.Common.{arith, ◌∙◌}
use Rattle.std.proofs.lemmas.Str.Parse.{digit_at}
use Rattle.fixed_core.proofs.DigitFacts.{capped_more}
use Rattle.fixed_core.proofs.mantissa.capped_value.Goals as goal

pub overflow_sub-c : goal.overflow_sub-c
overflow_sub-c c = let h = digit_at c.args.digits.now c.loop-c.c-index c.requires (omega arith) in omega arith

pub loop-c-preserved : goal.loop-c-preserved
loop-c-preserved c =
    let within = c.loop-c-test.true in
    let more = capped_more c.args.digits.now c.loop-c.c-index c.loop-c.value c.requires within c.loop-c.invariant in
    c.min-value.ensures ∙ rw c.from.ensures more
