-- A text spells the numeral that is computed from it, and no other.
use Rattle.std.proofs.Common.{◌≡◌, ◌≢◌, ◌⊎◌, ◌↔◌, ℕ, ◌+◌, ◌<◌, ◌==◌, ◌&&◌, ◌||◌, List, [], ◌∷◌, ◌++◌, length, Bool, true, false, Option, Some, None, refl, sym, ap, ◌∙◌, inl, inr, arith, subst}
use Rattle.std.specs.Prelude.{option_map, IfSome, nat_lt}
use Rattle.std.specs.Char.{is_ascii_digit, digit_value}
use Rattle.std.specs.List.{list_all}
use Rattle.std.specs.Str.Parse.{AllDigits}
use Rattle.std.proofs.lemmas.Bool.{cases_Bool, eqb-true, ne_eqb, eqb-false, ltb-true, lt-ltb}
use Rattle.std.proofs.lemmas.List.{take-append-drop}
use Rattle.std.proofs.lemmas.Str.Parse.{digit_from_value}
use Rattle.fixed_core.specs.Numeral.{Numeral, numeral_of, numeral_of_body, digits_len, front_digits, after_digits, is_minus, after_sign, fraction_digits, after_fraction, exponent_of}
use Rattle.fixed_core.specs.Spells.{IsSign, IsFraction, IsExponent, Spells}
use Rattle.fixed_core.proofs.DigitFacts.{digit_passes}
use Rattle.fixed_core.proofs.NumeralFacts.{front_all, all_digits_test, numeral-some}
use Rattle.fixed_core.proofs.ReadsBack.{StartsOther, front-then}

-- the sign in front of a text
record SignPart (text : List ℕ) : Type 0 where
  sign : List ℕ
  is : text ≡ sign ++ after_sign text
  is_sign : IsSign (is_minus text) sign

sign_part : (text : List ℕ) → SignPart text
sign_part [] = record { sign = []; is = refl; is_sign = inr refl }
sign_part (c ∷ rest) =
    elim (cases_Bool (c == 45)) [
      | inl minus ↦ record { sign = 45 ∷ []; is = rw minus (ap (λ x. x ∷ rest) (eqb-true c 45 minus)); is_sign = rw minus refl }
      | inr other ↦ elim (cases_Bool (c == 43)) [
        | inl plus ↦ record { sign = 43 ∷ []; is = rw (other, plus) (ap (λ x. x ∷ rest) (eqb-true c 43 plus)); is_sign = rw other (inl refl) }
        | inr neither ↦ record { sign = []; is = rw (other, neither) refl; is_sign = rw other (inr refl) }
      ]
    ]

-- the point and the digits after it, in front of a text
record FractionPart (text : List ℕ) : Type 0 where
  part : List ℕ
  is : text ≡ part ++ after_fraction text
  is_fraction : IsFraction (fraction_digits text) part
  all : AllDigits 10 (fraction_digits text)

fraction_part : (text : List ℕ) → FractionPart text
fraction_part [] = record { part = []; is = refl; is_fraction = inr (refl, refl); all = tt }
fraction_part (c ∷ rest) =
    elim (cases_Bool (c == 46)) [
      | inl point ↦ record {
        part = 46 ∷ front_digits rest;
        is = rw point (ap (λ x. x ∷ rest) (eqb-true c 46 point) ∙ ap (λ t. 46 ∷ t) (sym (take-append-drop (digits_len rest) rest)));
        is_fraction = rw point (inl refl);
        all = rw point (front_all rest);
      }
      | inr other ↦ record { part = []; is = rw other refl; is_fraction = rw other (inr (refl, refl)); all = rw other tt }
    ]

and_parts : (a b : Bool) → (a && b) ≡ true → (a ≡ true) × (b ≡ true)
and_parts true b h = (refl, h)
and_parts false b h = absurd cc

letters : (c : ℕ) → ((c == 101) || (c == 69)) ≡ true → (c ≡ 101) ⊎ (c ≡ 69)
letters c h =
    elim (cases_Bool (c == 101)) [
      | inl small ↦ inl (eqb-true c 101 small)
      | inr other ↦ inr (eqb-true c 69 (rw other at h))
    ]

-- an exponent that is computed is spelled
exponent_part : (text : List ℕ) → IfSome (exponent_of text) (λ e. IsExponent e.0 e.1 text × AllDigits 10 e.1)
exponent_part [] = (inr (refl, refl, refl), tt)
exponent_part (c ∷ rest) =
    elim (cases_Bool (((c == 101) || (c == 69)) && nat_lt 0 (length (after_sign rest)) && list_all is_ascii_digit (after_sign rest))) [
      | inl all ↦
          let parts = and_parts (((c == 101) || (c == 69)) && nat_lt 0 (length (after_sign rest))) (list_all is_ascii_digit (after_sign rest)) all in
          let front = and_parts ((c == 101) || (c == 69)) (nat_lt 0 (length (after_sign rest))) parts.0 in
          let sign = sign_part rest in
          rw all (inl (record { letter = c; sign = sign.sign; is = ap (λ t. c ∷ t) sign.is; is_letter = letters c front.0; is_sign = sign.is_sign; some = ltb-true 0 (length (after_sign rest)) front.1 }), all_digits_test (after_sign rest) parts.1)
      | inr none ↦ rw none tt
    ]

map_some : {A B : Type 0} (f : A → B) (P : A → Type 0) (Q : B → Type 0) → ((a : A) → P a → Q (f a)) → (o : Option A) → IfSome o P → IfSome (option_map f o) Q
map_some f P Q each None h = tt
map_some f P Q each (Some a) h = each a h

-- a numeral that is computed is spelled
spelled : (text : List ℕ) → IfSome (numeral_of text) (λ n. Spells text n)
unfolding numeral_of numeral_of_body
spelled text =
    let body : List ℕ = after_sign text in
    let rest : List ℕ = after_digits body in
    elim (cases_Bool (length (front_digits body) + length (fraction_digits rest) == 0)) [
      | inl none ↦ rw none tt
      | inr some ↦ rw some (map_some _ (λ e. IsExponent e.0 e.1 (after_fraction rest) × AllDigits 10 e.1) (λ n. Spells text n)
          (λ e h.
          let sign = sign_part text in
          let fraction = fraction_part rest in
          record {
            sign = sign.sign;
            point = fraction.part;
            power = after_fraction rest;
            is = sign.is ∙ ap (λ t. sign.sign ++ t) (sym (take-append-drop (digits_len body) body) ∙ ap (λ t. front_digits body ++ t) fraction.is);
            is_sign = sign.is_sign;
            is_fraction = fraction.is_fraction;
            is_exponent = h.0;
            whole = front_all body;
            fraction = fraction.all;
            exponent = h.1;
            some = let there : length (front_digits body) + length (fraction_digits rest) ≢ 0 = eqb-false (length (front_digits body) + length (fraction_digits rest)) 0 some in omega (arith, there);
          })
          (exponent_of (after_fraction rest)) (exponent_part (after_fraction rest)))
    ]

-- the text does not begin with a sign
abbrev StartsUnsigned : List ℕ → Type 0
StartsUnsigned [] = Unit {0}
StartsUnsigned (c ∷ cs) = (c ≢ 45) × (c ≢ 43)

no_sign : (text : List ℕ) → StartsUnsigned text → (is_minus text ≡ false) × (after_sign text ≡ text)
no_sign [] h = (refl, refl)
no_sign (c ∷ cs) h = (ne_eqb c 45 h.0, rw (ne_eqb c 45 h.0, ne_eqb c 43 h.1) refl)

-- a sign, and then no other
sign_then : (negative : Bool) (sign text : List ℕ) → IsSign negative sign → StartsUnsigned text → (is_minus (sign ++ text) ≡ negative) × (after_sign (sign ++ text) ≡ text)
sign_then true sign text h start = rw h (refl, refl)
sign_then false sign text h start = elim h [ inl plus ↦ rw plus (refl, refl) | inr none ↦ rw none (no_sign text start) ]

digit_unsigned : (c : ℕ) → digit_value c < 10 → (c ≢ 45) × (c ≢ 43)
digit_unsigned c h = let range = digit_from_value c h in (omega (arith, range.0, range.1), omega (arith, range.0, range.1))

digits_unsigned : (ds rest : List ℕ) → AllDigits 10 ds → StartsUnsigned rest → StartsUnsigned (ds ++ rest)
digits_unsigned [] rest all h = h
digits_unsigned (d ∷ ds) rest all h = digit_unsigned d all.0

-- the point and the exponent begin with no digit
exponent_other : (lowers : Bool) (digits power : List ℕ) → IsExponent lowers digits power → StartsOther power
exponent_other lowers digits power h =
    elim h [
      | inl written ↦ rw written.is (elim written.is_letter [ inl small ↦ rw small refl | inr great ↦ rw great refl ])
      | inr none ↦ rw none.0 tt
    ]

fraction_other : (digits point power : List ℕ) → IsFraction digits point → StartsOther power → StartsOther (point ++ power)
fraction_other digits point power h other = elim h [ inl there ↦ rw there refl | inr none ↦ rw none.0 other ]

-- the text of a mantissa does not begin with a sign
mantissa_unsigned : (whole digits point power : List ℕ) → AllDigits 10 whole → IsFraction digits point → 0 < length whole + length digits → StartsUnsigned (whole ++ (point ++ power))
mantissa_unsigned whole digits point power all h some =
    elim h [
      | inl there ↦ rw there (digits_unsigned whole (46 ∷ (digits ++ power)) all (omega arith, omega arith))
      | inr none ↦ first whole all (let few : length digits ≡ 0 = rw none.1 refl in omega (arith, few))
    ]
  where
    first : (ds : List ℕ) → AllDigits 10 ds → 0 < length ds → StartsUnsigned (ds ++ (point ++ power))
    first [] all some = absurd (omega arith)
    first (d ∷ ds) all some = digit_unsigned d all.0

-- the fraction of what follows the whole digits
no_point : (lowers : Bool) (digits power : List ℕ) → IsExponent lowers digits power → (fraction_digits power ≡ []) × (after_fraction power ≡ power)
no_point lowers digits power h =
    elim h [
      | inl written ↦ rw written.is (elim written.is_letter [ inl small ↦ rw small (refl, refl) | inr great ↦ rw great (refl, refl) ])
      | inr none ↦ rw none.0 (refl, refl)
    ]

fraction_then : (lowers : Bool) (digits point exponent power : List ℕ) → AllDigits 10 digits → IsFraction digits point → IsExponent lowers exponent power
    → (fraction_digits (point ++ power) ≡ digits) × (after_fraction (point ++ power) ≡ power)
fraction_then lowers digits point exponent power all h is =
    elim h [
      | inl there ↦ rw there (front-then digits power all (exponent_other lowers exponent power is))
      | inr none ↦ rw (none.0, none.1) (no_point lowers exponent power is)
    ]

all_digits : (ds : List ℕ) → AllDigits 10 ds → list_all is_ascii_digit ds ≡ true
all_digits [] all = refl
all_digits (d ∷ ds) all = rw (digit_passes d all.0) (all_digits ds all.1)

letter_test : (c : ℕ) → (c ≡ 101) ⊎ (c ≡ 69) → ((c == 101) || (c == 69)) ≡ true
letter_test c h = elim h [ inl small ↦ rw small refl | inr great ↦ rw great refl ]

digits_start : (ds : List ℕ) → AllDigits 10 ds → StartsUnsigned ds
digits_start [] all = tt
digits_start (d ∷ ds) all = digit_unsigned d all.0

-- an exponent that is spelled is computed
exponent_then : (lowers : Bool) (digits power : List ℕ) → AllDigits 10 digits → IsExponent lowers digits power → exponent_of power ≡ Some (lowers, digits)
exponent_then lowers digits power all h =
    elim h [
      | inl written ↦
          let parts = sign_then lowers written.sign digits written.is_sign (digits_start digits all) in
          rw (written.is, letter_test written.letter written.is_letter, parts.0, parts.1, lt-ltb 0 (length digits) written.some, all_digits digits all) refl
      | inr none ↦ rw (none.0, none.1, none.2) refl
    ]

-- a numeral that is spelled is computed
pub computed : (text : List ℕ) (n : Numeral) → Spells text n → numeral_of text ≡ Some n
computed text n s =
    let rest : List ℕ = s.point ++ s.power in
    let body : List ℕ = n.whole ++ rest in
    let sign = sign_then n.negative s.sign body s.is_sign (mantissa_unsigned n.whole n.fraction s.point s.power s.whole s.is_fraction s.some) in
    let front = front-then n.whole rest s.whole (fraction_other n.fraction s.point s.power s.is_fraction (exponent_other n.lowers n.exponent s.power s.is_exponent)) in
    let fraction = fraction_then n.lowers n.fraction s.point n.exponent s.power s.fraction s.is_fraction s.is_exponent in
    let some : length n.whole + length n.fraction ≢ 0 = omega (arith, s.some) in
    let number = numeral-some (s.sign ++ body) body n.whole rest n.fraction s.power (sym sign.1) (sym front.0) (sym front.1) (sym fraction.0) some (sym fraction.1) in
    ap (λ t. numeral_of t) s.is ∙ rw (sign.0, exponent_then n.lowers n.exponent s.power s.exponent s.is_exponent) at number

pub spelled_if : (text : List ℕ) (n : Numeral) → numeral_of text ≡ Some n → Spells text n
spelled_if text n h = let P : Option Numeral → Type 0 = λ o. IfSome o (λ m. Spells text m) in subst P h (spelled text)

pub spelled_numeral : (text : List ℕ) (n : Numeral) → (numeral_of text ≡ Some n) ↔ Spells text n
spelled_numeral text n = (spelled_if text n, computed text n)
