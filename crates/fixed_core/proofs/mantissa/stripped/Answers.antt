use Rattle.std.proofs.Common.{◌≡◌, ◌*◌, ◌/◌, ◌^◌, ap, ◌∙◌, arith}
use Rattle.fixed_core.proofs.PowerFacts.{pow_more}
use Rattle.fixed_core.proofs.mantissa.stripped.Goals as goal

pub loop-value-preserved : goal.loop-value-preserved
loop-value-preserved c =
    let v = c.loop-value.value / 10 in
    let whole : c.loop-value.value ≡ v * 10 = omega arith in
    let more = pow_more v c.loop-value.zeros in
    let swap : v * 10 * 10 ^ c.loop-value.zeros ≡ v * 10 ^ c.loop-value.zeros * 10 = omega arith in
    record {
      same = c.loop-value.invariant.same ∙ ap (λ x. x * 10 ^ c.loop-value.zeros) whole ∙ swap ∙ more;
      few = omega (arith, c.loop-value.invariant.few, c.if-value-eq0.true);
    }
