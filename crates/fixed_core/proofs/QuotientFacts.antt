-- The quotient of a mantissa by a power of ten.
use Rattle.std.proofs.Common.{◌≡◌, ◌≢◌, ℕ, suc, ◌+◌, ◌*◌, ◌/◌, ◌%◌, ◌^◌, ◌<◌, ◌≤◌, Bool, true, false, refl, sym, ap, ◌∙◌, arith, Err, Ok}
use Rattle.std.proofs.Math.Nat.{mul-div_cancel, mul-mod_left, mul_assoc, mul_comm, mul-le-mul_left, pow-succ', dvd-mul_right, mod-mod_of_dvd, zero-mod, zero-div}
use Rattle.std.specs.Int.{◌∣◌}
use Rattle.std.specs.Prelude.{Result, ℤ, pos}
use Rattle.std.proofs.lemmas.Bool.{ne_eqb, le-leb, lt-leb}
use Rattle.fixed_core.specs.Value.{fixed_quotient, signed}
use Rattle.fixed_core.specs.declared.fault.FixedFault.{FixedFault}
use Rattle.fixed_core.specs.declared.fault.FixedFault.TheVariants.{Digits, Range}
use Rattle.std.proofs.Math.Arith.{mod-mul}
use Rattle.std.proofs.lemmas.Nat.{pow-add}
use Rattle.fixed_core.proofs.PowerFacts.{pow_least}

-- the digits and what they are multiplied by, if the division leaves nothing
pub scaled-split : (head zeros raised lowered k : ℕ) → zeros + raised ≡ k + lowered → head * 10 ^ zeros * 10 ^ raised ≡ head * 10 ^ k * 10 ^ lowered
scaled-split head zeros raised lowered k e =
    mul_assoc head (10 ^ zeros) (10 ^ raised) ∙ ap (λ p. head * p) (sym (pow-add 10 zeros raised) ∙ ap (λ i. 10 ^ i) e ∙ pow-add 10 k lowered) ∙ sym (mul_assoc head (10 ^ k) (10 ^ lowered))

pub scaled-mod : (head zeros raised lowered k : ℕ) → zeros + raised ≡ k + lowered → head * 10 ^ zeros * 10 ^ raised % 10 ^ lowered ≡ 0
scaled-mod head zeros raised lowered k e = rw (scaled-split head zeros raised lowered k e) (mul-mod_left (head * 10 ^ k) (10 ^ lowered))

pub scaled-div : (head zeros raised lowered k : ℕ) → zeros + raised ≡ k + lowered → head * 10 ^ zeros * 10 ^ raised / 10 ^ lowered ≡ head * 10 ^ k
scaled-div head zeros raised lowered k e =
    let some : 0 < 10 ^ lowered = pow_least lowered in
    rw (scaled-split head zeros raised lowered k e) (mul-div_cancel (head * 10 ^ k) some)

-- a number that ends in no zero is no multiple of ten
pub scaled-left : (head zeros raised lowered k : ℕ) → head % 10 ≢ 0 → lowered ≡ zeros + raised + suc k → head * 10 ^ zeros * 10 ^ raised % 10 ^ lowered ≢ 0
scaled-left head zeros raised lowered k ends e none =
    let p : ℕ = 10 ^ (zeros + raised) in
    let least : 0 < 10 ^ (zeros + raised) = pow_least (zeros + raised) in
    let ten : 0 < 10 ^ suc k = pow_least (suc k) in
    let joined : head * 10 ^ zeros * 10 ^ raised ≡ head * 10 ^ (zeros + raised) = mul_assoc head (10 ^ zeros) (10 ^ raised) ∙ ap (λ q. head * q) (sym (pow-add 10 zeros raised)) in
    let divisor : 10 ^ lowered ≡ 10 ^ suc k * 10 ^ (zeros + raised) = ap (λ i. 10 ^ i) e ∙ pow-add 10 (zeros + raised) (suc k) ∙ mul_comm (10 ^ (zeros + raised)) (10 ^ suc k) in
    let zero_left : head * 10 ^ (zeros + raised) % (10 ^ suc k * 10 ^ (zeros + raised)) ≡ 0 = rw (joined, divisor) at none in
    let split = mod-mul (head * 10 ^ (zeros + raised)) {m = 10 ^ suc k} {c = 10 ^ (zeros + raised)} ten least in
    let back : head * 10 ^ (zeros + raised) / 10 ^ (zeros + raised) ≡ head = mul-div_cancel head least in
    let parts : head * 10 ^ (zeros + raised) / 10 ^ (zeros + raised) % 10 ^ suc k * 10 ^ (zeros + raised) ≡ 0 = omega (arith, split, zero_left) in
    let low : (head % 10 ^ suc k) * 10 ^ (zeros + raised) ≡ 0 = rw back at parts in
    let less : (head % 10 ^ suc k) * 1 ≤ (head % 10 ^ suc k) * 10 ^ (zeros + raised) = mul-le-mul_left (head % 10 ^ suc k) least in
    let nothing : head % 10 ^ suc k ≡ 0 = omega (arith, low, less) in
    let tens : 10 ∣ 10 ^ suc k = rw (pow-succ' 10 k) (dvd-mul_right 10 (10 ^ k)) in
    let last : 0 % 10 ≡ head % 10 = rw nothing at (mod-mod_of_dvd 10 head tens) in
    ends (sym last)

module _ (negative : Bool) (n head zeros raised lowered : ℕ) (same : n ≡ head * 10 ^ zeros) where
  pub quotient-ok : (k u : ℕ) → zeros + raised ≡ k + lowered → u ≡ head * 10 ^ k → u ≤ 10 ^ 36 → fixed_quotient negative (n * 10 ^ raised) (10 ^ lowered) ≡ Ok (signed negative u)
  unfolding fixed_quotient
  quotient-ok k u e value small =
      rw (same, scaled-mod head zeros raised lowered k e, scaled-div head zeros raised lowered k e, ← value, le-leb u (10 ^ 36) small) refl

  pub quotient-range : (k : ℕ) → zeros + raised ≡ k + lowered → 10 ^ 36 < head * 10 ^ k → fixed_quotient negative (n * 10 ^ raised) (10 ^ lowered) ≡ Err Range
  unfolding fixed_quotient
  quotient-range k e far =
      rw (same, scaled-mod head zeros raised lowered k e, scaled-div head zeros raised lowered k e, lt-leb (head * 10 ^ k) (10 ^ 36) far) refl

  pub quotient-digits : (k : ℕ) → head % 10 ≢ 0 → lowered ≡ zeros + raised + suc k → fixed_quotient negative (n * 10 ^ raised) (10 ^ lowered) ≡ Err Digits
  unfolding fixed_quotient
  quotient-digits k ends e =
      rw (same, ne_eqb (head * 10 ^ zeros * 10 ^ raised % 10 ^ lowered) 0 (scaled-left head zeros raised lowered k ends e)) refl

-- no digit but zeros
pub quotient-zero : (negative : Bool) (raised lowered : ℕ) → fixed_quotient negative (0 * 10 ^ raised) (10 ^ lowered) ≡ Ok (pos 0)
unfolding fixed_quotient
quotient-zero negative raised lowered =
    let none : 0 * 10 ^ raised ≡ 0 = omega arith in
    rw (none, zero-mod (10 ^ lowered), zero-div (10 ^ lowered)) (by negative)
  where
    by : (b : Bool) → ◌≡◌ {A = Result ℤ FixedFault} (Ok (signed b 0)) (Ok (pos 0))
    by true = refl
    by false = refl
