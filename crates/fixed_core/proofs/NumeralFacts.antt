-- The numeral of a text by its parts.
use Rattle.std.proofs.Common.{◌≡◌, ◌≢◌, ap, ◌∙◌, Bool, if◌then◌else◌, ℕ, ◌+◌, ◌*◌, ◌^◌, List, [], ◌∷◌, length, take, true, false, not, Some, None, Err, one-add, refl, inl, inr, arith}
use Rattle.std.specs.Prelude.{option_map, nat_lt}
use Rattle.std.specs.Char.{is_ascii_digit}
use Rattle.std.specs.List.{list_all, position_or_len}
use Rattle.std.specs.Str.Parse.{AllDigits}
use Rattle.std.proofs.lemmas.Bool.{cases_Bool, eq-eqb, ne_eqb, leb-false, false≢true}
use Rattle.std.proofs.lemmas.List.Sums.{prefix_len-le-length}
use Rattle.fixed_core.specs.Numeral.{Numeral, numeral_of, numeral_of_body, digits_len, front_digits, after_digits, is_minus, after_sign, fraction_digits, after_fraction, exponent_of}
use Rattle.fixed_core.specs.Value.{fixed_of, fixed_of_numeral, fixed_quotient, mantissa_of, raised_by, lowered_by}
use Rattle.fixed_core.specs.declared.fault.FixedFault.TheVariants.{Shape}
use Rattle.fixed_core.specs.Mantissa.{IsMantissa}
use Rattle.fixed_core.proofs.DigitFacts.{digit_test}

pub all_digits_test : (cs : List ℕ) → list_all is_ascii_digit cs ≡ true → AllDigits 10 cs
all_digits_test [] h = tt
all_digits_test (c ∷ cs) h =
    elim (cases_Bool (is_ascii_digit c)) [
      | inl digit ↦ (digit_test c digit, all_digits_test cs (rw digit at h))
      | inr other ↦ absurd (false≢true (rw other at h))
    ]

-- the place of the first that is no digit
pub first_other : (cs : List ℕ) → digits_len cs ≡ position_or_len (λ c. not (is_ascii_digit c)) cs
first_other cs =
    elim (cases_Bool (nat_lt (position_or_len (λ c. not (is_ascii_digit c)) cs) (length cs))) [
      | inl found ↦ rw found refl
      | inr none ↦ rw none (let past = leb-false _ _ none in let least = prefix_len-le-length (λ c. not (not (is_ascii_digit c))) cs in omega (arith, past, least))
    ]

front_so_far : (cs : List ℕ) → AllDigits 10 (take (position_or_len (λ c. not (is_ascii_digit c)) cs) cs)
front_so_far [] = tt
front_so_far (c ∷ cs) =
    elim (cases_Bool (is_ascii_digit c)) [
      | inl digit ↦ rw (digit, one-add) (digit_test c digit, front_so_far cs)
      | inr other ↦ rw other tt
    ]

-- the digits in front are digits
pub front_all : (cs : List ℕ) → AllDigits 10 (front_digits cs)
front_all cs = rw (first_other cs) (front_so_far cs)

module _ (text body whole rest fraction more : List ℕ) (is_body : body ≡ after_sign text) (is_whole : whole ≡ front_digits body) (is_rest : rest ≡ after_digits body) (is_fraction : fraction ≡ fraction_digits rest) where
  -- no digit, so no numeral
  pub numeral-none : length whole ≡ 0 → length fraction ≡ 0 → numeral_of text ≡ None
  unfolding numeral_of numeral_of_body
  numeral-none w f =
      let none : length (front_digits (after_sign text)) + length (fraction_digits (after_digits (after_sign text))) ≡ 0 =
      let sum : length whole + length fraction ≡ 0 = omega arith in
      rw (is_fraction, is_rest, is_whole, is_body) at sum in
      rw (eq-eqb _ 0 none) refl

  -- a digit, so the exponent decides
  pub numeral-some : (length whole + length fraction ≢ 0) → more ≡ after_fraction rest
      → numeral_of text ≡ option_map (λ e. record { negative = is_minus text; whole = whole; fraction = fraction; lowers = e.0; exponent = e.1 }) (exponent_of more)
  unfolding numeral_of numeral_of_body
  numeral-some some is_more =
      let there : length (front_digits (after_sign text)) + length (fraction_digits (after_digits (after_sign text))) ≢ 0 = rw (is_fraction, is_rest, is_whole, is_body) at some in
      rw (is_more, is_fraction, is_rest, is_whole, is_body, ne_eqb _ 0 there) refl

-- a text that is no numeral
pub fixed-shape : (text : List ℕ) → numeral_of text ≡ None → fixed_of text ≡ Err Shape
unfolding fixed_of
fixed-shape text none = rw none refl

pub fixed-numeral : (text : List ℕ) (n : Numeral) → numeral_of text ≡ Some n → fixed_of text ≡ fixed_of_numeral n
unfolding fixed_of
fixed-numeral text n some = rw some refl

-- no digit is the number 0
pub mantissa-start : IsMantissa 0 (record { value = 0; zeros = 0; large = false })
mantissa-start = record { head = 0; same = refl; known = λ _. (refl, omega arith); above = λ h. absurd (false≢true h); ends = inr (refl, refl) }

pub fixed-quotient : (n : Numeral) → fixed_of_numeral n ≡ fixed_quotient n.negative (mantissa_of n * 10 ^ raised_by n) (10 ^ lowered_by n)
unfolding fixed_of_numeral
fixed-quotient n = refl

-- without an exponent the point stays where it is
pub no_exponent : (n : Numeral) → n.exponent ≡ [] → fixed_of_numeral n ≡ fixed_quotient n.negative (mantissa_of n * 10 ^ 18) (10 ^ length n.fraction)
unfolding fixed_of_numeral
no_exponent n none =
    let raised : raised_by n ≡ 18 = rw none (either n.lowers) in
    let lowered : lowered_by n ≡ length n.fraction = rw none (other n.lowers (length n.fraction)) in
    ap (λ i. fixed_quotient n.negative (mantissa_of n * 10 ^ i) (10 ^ lowered_by n)) raised ∙ ap (λ i. fixed_quotient n.negative (mantissa_of n * 10 ^ 18) (10 ^ i)) lowered
  where
    either : (b : Bool) → 18 + (if b then 0 else 0) ≡ 18
    either true = refl
    either false = refl

    other : (b : Bool) (k : ℕ) → k + (if b then 0 else 0) ≡ k
    other true k = omega arith
    other false k = omega arith

pub no_items : (xs : List ℕ) → length xs ≡ 0 → xs ≡ []
no_items [] e = refl
no_items (x ∷ xs) e = absurd (omega (arith, e))
