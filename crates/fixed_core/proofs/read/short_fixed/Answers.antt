use Rattle.std.proofs.Common.{◌≡◌, ◌+◌, ◌-◌, ◌*◌, ◌^◌, ◌<◌, sym, ap, ◌∙◌, arith}
use Rattle.fixed_core.proofs.QuotientFacts.{quotient-ok, quotient-range}
use Rattle.fixed_core.proofs.read.short_fixed.Goals as goal

pub returns-then-units-le-MOST_UNITS : goal.returns-then-units-le-MOST_UNITS
returns-then-units-le-MOST_UNITS c =
    let n = c.args.digits in
    let k = 18 - c.args.scale in
    let same : n ≡ n * 10 ^ 0 = omega arith in
    let moves : 0 + 18 ≡ k + c.args.scale = omega (arith, c.requires) in
    let u = c.from.result * c.power_of_ten.result in
    let value : u ≡ n * 10 ^ k = ap (λ v. v * c.power_of_ten.result) c.from.ensures ∙ ap (λ p. n * p) c.power_of_ten.ensures in
    rw c.with_sign.ensures (sym (quotient-ok c.args.negative n n 0 18 c.args.scale same k u moves value c.if-units-le-MOST_UNITS.true))

pub returns-else-units-le-MOST_UNITS : goal.returns-else-units-le-MOST_UNITS
returns-else-units-le-MOST_UNITS c =
    let n = c.args.digits in
    let k = 18 - c.args.scale in
    let same : n ≡ n * 10 ^ 0 = omega arith in
    let moves : 0 + 18 ≡ k + c.args.scale = omega (arith, c.requires) in
    let u = c.from.result * c.power_of_ten.result in
    let value : u ≡ n * 10 ^ k = ap (λ v. v * c.power_of_ten.result) c.from.ensures ∙ ap (λ p. n * p) c.power_of_ten.ensures in
    let far : 10 ^ 36 < n * 10 ^ k = omega (arith, value, c.if-units-le-MOST_UNITS.false) in
    sym (quotient-range c.args.negative n n 0 18 c.args.scale same k moves far)
