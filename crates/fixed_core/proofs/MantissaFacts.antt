-- What one more digit does to a mantissa.
use Rattle.std.proofs.Common.{◌≡◌, ◌≢◌, inl, inr, ℕ, ◌+◌, ◌*◌, ◌%◌, ◌^◌, ◌<◌, ◌≤◌, Bool, true, false, sym, ap, ◌∙◌, arith}
use Rattle.std.proofs.lemmas.Bool.{cases_Bool}
use Rattle.std.proofs.lemmas.Nat.{mod-mul-add}
use Rattle.fixed_core.specs.declared.mantissa.Mantissa.{Mantissa}
use Rattle.fixed_core.specs.Mantissa.{IsMantissa}
use Rattle.fixed_core.proofs.PowerFacts.{pow_more, pow_least}
use Rattle.std.proofs.Math.Nat.{mul-le-mul_left}

-- one more zero at the end of a number that is not 0
pub mantissa-zero : (n : ℕ) (m : Mantissa) → ((m.large ≡ false) × (m.value ≡ 0) → ⊥) → IsMantissa n m → IsMantissa (n * 10 + 0) (record m { zeros = m.zeros + 1 })
mantissa-zero n m some h = record {
  head = h.head;
  same = let e = ap (λ k. k * 10) h.same ∙ pow_more h.head m.zeros in omega (arith, e);
  known = h.known;
  above = h.above;
  ends = elim h.ends [
    | inl ends ↦ inl ends
    | inr none ↦ elim (cases_Bool m.large) [
      | inl large ↦ absurd (omega (arith, h.above large, none.0))
      | inr small ↦ absurd (some (small, sym (h.known small).0 ∙ none.0))
    ]
  ];
}

-- a digit that is not 0 at the end
pub mantissa-digit : (n d value : ℕ) (large : Bool) → d ≢ 0 → d < 10 → (large ≡ false → (n * 10 + d ≡ value) × (n * 10 + d < 10 ^ 37)) → (large ≡ true → 10 ^ 37 ≤ n * 10 + d)
    → IsMantissa (n * 10 + d) (record { value = value; zeros = 0; large = large })
mantissa-digit n d value large some below known above = record {
  head = n * 10 + d;
  same = omega arith;
  known = known;
  above = above;
  ends = inl (rw (mod-mul-add n 10 d below) some);
}

-- a number is not less than its head
pub mantissa-least : (n : ℕ) (m : Mantissa) → (h : IsMantissa n m) → h.head ≤ n
mantissa-least n m h = omega (arith, h.same, mul-le-mul_left h.head (pow_least m.zeros))

-- a head that is known, with one more place
pub mantissa-tens : (n : ℕ) (m : Mantissa) → IsMantissa n m → m.large ≡ false → n * 10 ≡ m.value * 10 ^ (m.zeros + 1)
mantissa-tens n m h small = ap (λ k. k * 10) h.same ∙ pow_more h.head m.zeros ∙ ap (λ k. k * 10 ^ (m.zeros + 1)) (h.known small).0

-- the head of a number that is not 0
pub mantissa-ends : (n : ℕ) (m : Mantissa) → ((m.large ≡ false) × (m.value ≡ 0) → ⊥) → (h : IsMantissa n m) → h.head % 10 ≢ 0
mantissa-ends n m some h =
    elim h.ends [
      | inl ends ↦ ends
      | inr none ↦ elim (cases_Bool m.large) [
        | inl large ↦ absurd (omega (arith, h.above large, none.0))
        | inr small ↦ absurd (some (small, sym (h.known small).0 ∙ none.0))
      ]
    ]
