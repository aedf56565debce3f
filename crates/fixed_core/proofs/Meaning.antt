-- What is computed of a text is what its numeral means.
use Rattle.std.proofs.Common.{◌≡◌, ◌≢◌, ℕ, zero, suc, ◌*◌, ◌/◌, ◌%◌, ◌^◌, ◌==◌, List, Bool, true, false, Option, Some, None, refl, sym, ap, ◌∙◌, inl, inr, nat_le, subst, arith}
use Rattle.std.specs.Prelude.{ℤ, unsigned_abs, Result}
use Rattle.fixed_core.specs.declared.fault.FixedFault.{FixedFault}
use Rattle.std.proofs.lemmas.Bool.{cases_Bool, eqb-true, eqb-false, leb-true, leb-false}
use Rattle.std.proofs.Math.Nat.{div-add-mod', mul-mod_left}
use Rattle.fixed_core.specs.Numeral.{Numeral, numeral_of}
use Rattle.fixed_core.specs.Value.{fixed_of, fixed_or_shape, fixed_of_numeral, fixed_quotient, mantissa_of, raised_by, lowered_by, signed}
use Rattle.fixed_core.specs.Reads.{HasUnits, ReadsAs}
use Rattle.fixed_core.proofs.Spelled.{computed, spelled_if}

size_of : (negative : Bool) (n : ℕ) → unsigned_abs (signed negative n) ≡ n
size_of true zero = refl
size_of true (suc n) = refl
size_of false n = refl

not_none : (text : List ℕ) (n : Numeral) → numeral_of text ≡ None → numeral_of text ≡ Some n → ⊥
not_none text n none some = let bad : ◌≡◌ {A = Option Numeral} None (Some n) = sym none ∙ some in cc

module _ (text : List ℕ) (n : Numeral) (is : numeral_of text ≡ Some n) where
  -- the mantissa, and what it is divided by
  abbrev scaled : ℕ
  scaled = mantissa_of n * 10 ^ raised_by n

  abbrev divisor : ℕ
  divisor = 10 ^ lowered_by n

  no_units : scaled % divisor ≢ 0 → (units : ℤ) → ¬ HasUnits n units
  no_units left units h = left (ap (λ s. s % divisor) (sym h.exact) ∙ mul-mod_left h.size divisor)

  exact : scaled % divisor ≡ 0 → scaled / divisor * divisor ≡ scaled
  exact none = let whole = div-add-mod' scaled divisor in omega (arith, whole, none)

  numeral_means : ReadsAs text (fixed_of_numeral n)
  unfolding fixed_of_numeral fixed_quotient
  numeral_means =
      elim (cases_Bool (scaled % divisor == 0)) [
        | inl none ↦
            let has : HasUnits n (signed n.negative (scaled / divisor)) = record { size = scaled / divisor; exact = exact (eqb-true (scaled % divisor) 0 none); is_sign = refl } in
            elim (cases_Bool (nat_le (scaled / divisor) (10 ^ 36))) [
              | inl small ↦ rw (none, small) (n, (spelled_if text n is, has, rw (size_of n.negative (scaled / divisor)) (leb-true (scaled / divisor) (10 ^ 36) small)))
              | inr large ↦ rw (none, large) (n, (signed n.negative (scaled / divisor), (spelled_if text n is, has, rw (size_of n.negative (scaled / divisor)) (leb-false (scaled / divisor) (10 ^ 36) large))))
            ]
        | inr left ↦ rw left (n, (spelled_if text n is, no_units (eqb-false (scaled % divisor) 0 left)))
      ]

means : (text : List ℕ) (o : Option Numeral) → numeral_of text ≡ o → ReadsAs text (fixed_or_shape o)
means text None h = λ n s. not_none text n h (computed text n s)
means text (Some n) h = numeral_means text n h

-- what is computed of a text is what it means
pub reads_as : (text : List ℕ) → ReadsAs text (fixed_of text)
unfolding fixed_of
reads_as text = means text (numeral_of text) refl

pub answer_reads : (text : List ℕ) (answer : Result ℤ FixedFault) → answer ≡ fixed_of text → ReadsAs text answer
answer_reads text answer is = let P : Result ℤ FixedFault → Type 0 = λ r. ReadsAs text r in subst P (sym is) (reads_as text)
