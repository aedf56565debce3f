-- How far a capped exponent moves the point.
use Rattle.std.proofs.Common.{◌≡◌, ◌≢◌, ℕ, suc, ◌+◌, ◌-◌, ◌*◌, ◌^◌, ◌<◌, ◌≤◌, Bool, true, false, not, min, inl, inr, nat_le, arith, if◌then◌else◌}
use Rattle.std.proofs.Math.Nat.{mul-le-mul_left}
use Rattle.std.proofs.lemmas.Bool.{cases_Bool, leb-true, leb-false}
use Rattle.fixed_core.proofs.PowerFacts.{shifted_far, pow_up}

-- the point moves to the left of a last digit, by more than the code has seen
pub digits-gap : (lowers : Bool) (zeros exponent e scale raised lowered : ℕ) → exponent ≡ min e 100000000000000000000 → zeros < 2 ^ 64 → scale < 2 ^ 64
    → raised ≡ zeros + 18 + (if not lowers then exponent else 0) → lowered ≡ scale + (if lowers then exponent else 0) → raised < lowered
    → (k : ℕ) × (scale + (if lowers then e else 0) ≡ zeros + (18 + (if lowers then 0 else e)) + suc k)
digits-gap true zeros exponent e scale raised lowered capped z s r l less = (scale + e - (zeros + 18) - 1, omega arith)
digits-gap false zeros exponent e scale raised lowered capped z s r l less = (scale - (zeros + 18 + e) - 1, omega arith)

-- the point moves to the right, as far as the code has seen or farther
pub record Moves (zeros up down gap : ℕ) : Type 0 where
  pub by : ℕ
  pub same : zeros + up ≡ by + down
  pub least : gap ≤ by
  pub near : gap ≤ 37 → by ≡ gap

pub moves-right : (lowers : Bool) (zeros exponent e scale raised lowered : ℕ) → exponent ≡ min e 100000000000000000000 → zeros < 2 ^ 64 → scale < 2 ^ 64
    → raised ≡ zeros + 18 + (if not lowers then exponent else 0) → lowered ≡ scale + (if lowers then exponent else 0) → lowered ≤ raised
    → Moves zeros (18 + (if lowers then 0 else e)) (scale + (if lowers then e else 0)) (raised - lowered)
moves-right true zeros exponent e scale raised lowered capped z s r l least = record {
  by = zeros + 18 - (scale + e);
  same = omega arith;
  least = omega arith;
  near = λ h. omega arith;
}
moves-right false zeros exponent e scale raised lowered capped z s r l least = record {
  by = zeros + 18 + e - scale;
  same = omega arith;
  least = omega arith;
  near = λ h. omega arith;
}

-- a number below 10^37 has few zeros more than its head
pub near_enough : (v by r : ℕ) → v ≢ 0 → r ≡ v * 10 ^ by → r < 10 ^ 37 → by ≤ 37
near_enough v by r some e small =
    elim (cases_Bool (nat_le by 37)) [
      | inl near ↦ leb-true by 37 near
      | inr past ↦ absurd (let far = shifted_far v by some (leb-false by 37 past) in omega (arith, far, e, small))
    ]

pub farther : (v gap by : ℕ) → gap ≤ by → v * 10 ^ gap ≤ v * 10 ^ by
farther v gap by h = mul-le-mul_left v (pow_up gap by h)
