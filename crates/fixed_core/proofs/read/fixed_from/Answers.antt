use Rattle.std.proofs.Common.{◌≡◌, ◌≢◌, ◌≤◌, ◌<◌, ◌^◌, ◌+◌, ◌*◌, ◌∙◌, sym, ap, arith, true≢false, false, if◌then◌else◌}
use Rattle.std.proofs.lemmas.Nat.{mul-le}
use Rattle.fixed_core.proofs.PowerFacts.{pow_least}
use Rattle.std.proofs.lemmas.Bool.{not-true}
use Rattle.fixed_core.proofs.MantissaFacts.{mantissa-ends}
use Rattle.fixed_core.proofs.ExponentFacts.{digits-gap, moves-right, near_enough, farther}
use Rattle.fixed_core.proofs.QuotientFacts.{quotient-ok, quotient-range, quotient-digits, quotient-zero}
use Rattle.fixed_core.proofs.read.fixed_from.Goals as goal
use Rattle.fixed_core.proofs.read.fixed_from.Goals.{else-not-m-via-then-not-m+else-m-eq0, else-not-m-via-else-not-m, in_default-via-in-Some+else-units-le-MOST_UNITS, in_default-via-in_default}

pub returns-then-m-eq0 : goal.returns-then-m-eq0
returns-then-m-eq0 c = λ n e h capped.
    let small : c.args.m.large ≡ false = not-true c.args.m.large c.if-not-m.true in
    let none : h.head ≡ 0 = (h.known small).0 ∙ c.if-m-eq0.true in
    let nothing : n ≡ 0 = h.same ∙ ap (λ k. k * 10 ^ c.args.m.zeros) none ∙ omega arith in
    rw (nothing, c.with_sign.ensures) (sym (quotient-zero c.args.negative (18 + (if c.args.lowers then 0 else e)) (c.args.scale + (if c.args.lowers then e else 0))))

pub returns-then-raised-lowered : goal.returns-then-raised-lowered
returns-then-raised-lowered c = λ n e h capped.
    let ends = mantissa-ends n c.args.m
    (λ both. elim c.else-not-m.branch [
      | else-not-m-via-then-not-m+else-m-eq0 w ↦ w.if-m-eq0.false both.1
      | else-not-m-via-else-not-m w ↦ true≢false (rw both.0 at w.if-not-m.false)
    ]) h in
    let (k, gap) = digits-gap c.args.lowers c.args.m.zeros c.args.exponent e c.args.scale _ _ capped c.requires.zeros c.requires.scale
    (ap (λ t. c.args.m.zeros + 18 + t) c.or_zero.ensures) (ap (λ t. c.args.scale + t) c.or_zero-2.ensures) c.if-raised-lowered.true in
    sym (quotient-digits c.args.negative n h.head c.args.m.zeros (18 + (if c.args.lowers then 0 else e)) (c.args.scale + (if c.args.lowers then e else 0)) h.same k ends gap)

pub returns-then-m : goal.returns-then-m
returns-then-m c = λ n e h capped.
    let moves = moves-right c.args.lowers c.args.m.zeros c.args.exponent e c.args.scale _ _ capped c.requires.zeros c.requires.scale
    (ap (λ t. c.args.m.zeros + 18 + t) c.or_zero.ensures) (ap (λ t. c.args.scale + t) c.or_zero-2.ensures) c.if-raised-lowered.false in
    let far : 10 ^ 37 * 1 ≤ h.head * 10 ^ moves.by = mul-le (10 ^ 37) 1 h.head (10 ^ moves.by) (h.above c.if-m.true) (pow_least moves.by) in
    sym (quotient-range c.args.negative n h.head c.args.m.zeros (18 + (if c.args.lowers then 0 else e)) (c.args.scale + (if c.args.lowers then e else 0)) h.same moves.by moves.same (omega (arith, far)))

pub returns-in-Some : goal.returns-in-Some
returns-in-Some c = λ n e h capped.
    let moves = moves-right c.args.lowers c.args.m.zeros c.args.exponent e c.args.scale _ _ capped c.requires.zeros c.requires.scale
    (ap (λ t. c.args.m.zeros + 18 + t) c.or_zero.ensures) (ap (λ t. c.args.scale + t) c.or_zero-2.ensures) c.if-raised-lowered.false in
    let some : c.args.m.value ≢ 0 = λ none. elim c.else-not-m.branch [
      | else-not-m-via-then-not-m+else-m-eq0 w ↦ w.if-m-eq0.false none
      | else-not-m-via-else-not-m w ↦ true≢false (rw c.if-m.false at w.if-not-m.false)
    ] in
    let near = moves.near (near_enough c.args.m.value _ c.in-Some.units some c.in-Some.ensures.0 c.in-Some.ensures.1) in
    let value = c.in-Some.ensures.0 ∙ ap (λ i. c.args.m.value * 10 ^ i) (sym near) ∙ ap (λ v. v * 10 ^ moves.by) (sym (h.known c.if-m.false).0) in
    rw c.with_sign-in-Some.ensures
    (sym (quotient-ok c.args.negative n h.head c.args.m.zeros (18 + (if c.args.lowers then 0 else e)) (c.args.scale + (if c.args.lowers then e else 0)) h.same moves.by c.in-Some.units moves.same value c.if-units-le-MOST_UNITS.true))

pub returns-in_default : goal.returns-in_default
returns-in_default c = λ n e h capped.
    let moves = moves-right c.args.lowers c.args.m.zeros c.args.exponent e c.args.scale _ _ capped c.requires.zeros c.requires.scale
    (ap (λ t. c.args.m.zeros + 18 + t) c.or_zero.ensures) (ap (λ t. c.args.scale + t) c.or_zero-2.ensures) c.if-raised-lowered.false in
    let more = farther c.args.m.value _ moves.by moves.least in
    let same : h.head * 10 ^ moves.by ≡ c.args.m.value * 10 ^ moves.by = ap (λ v. v * 10 ^ moves.by) (h.known c.if-m.false).0 in
    let far : 10 ^ 36 < h.head * 10 ^ moves.by = elim c.in_default.branch [
      | in_default-via-in-Some+else-units-le-MOST_UNITS w ↦ omega (arith, more, same, w.in-Some.ensures.0, w.if-units-le-MOST_UNITS.false)
      | in_default-via-in_default w ↦ omega (arith, more, same, w.in_default.ensures)
    ] in
    sym (quotient-range c.args.negative n h.head c.args.m.zeros (18 + (if c.args.lowers then 0 else e)) (c.args.scale + (if c.args.lowers then e else 0)) h.same moves.by moves.same far)
