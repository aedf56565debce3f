-- The spelling of a number reads as that number.
use Rattle.std.proofs.Common.{◌≡◌, ◌≢◌, ℕ, zero, suc, ◌+◌, ◌-◌, ◌*◌, ◌/◌, ◌%◌, ◌^◌, ◌<◌, ◌≤◌, ◌==◌, List, [], ◌∷◌, ◌++◌, length, Bool, true, false, not, Some, Ok, refl, sym, ap, ◌∙◌, inl, inr, one-add, arith}
use Rattle.std.specs.Prelude.{decimal, ℤ, pos, negsuc, unsigned_abs}
use Rattle.std.specs.Char.{is_ascii_digit, digit_value}
use Rattle.std.specs.List.{position_or_len}
use Rattle.std.specs.Str.Parse.{AllDigits, digits_value, digits_value_after}
use Rattle.std.proofs.lemmas.Bool.{cases_Bool, eqb-true, ne_eqb, eqb-false}
use Rattle.std.proofs.lemmas.Str.{digit_value_digit}
use Rattle.std.proofs.lemmas.Str.Parse.{digit_from_value}
use Rattle.std.proofs.lemmas.Fmt.{decimal_is_IsNumeral_wide}
use Rattle.std.proofs.lemmas.List.{append-nil}
use Rattle.std.proofs.lemmas.Nat.{mod_below, div-add-mod', pow-add}
use Rattle.std.proofs.Math.Nat.{pow-suc}
use Rattle.std.proofs.Math.Seq.{take-append_seam, drop-append_seam}
use Rattle.fixed_core.specs.Numeral.{front_digits, after_digits, is_minus, after_sign, fraction_digits, after_fraction, numeral_of}
use Rattle.fixed_core.specs.Value.{fixed_of, signed}
use Rattle.fixed_core.specs.Spelling.{short_digits, point_digits, sign_text, spelling_of, spelling}
use Rattle.fixed_core.proofs.PowerFacts.{pow_least}
use Rattle.fixed_core.proofs.DigitFacts.{digits_after_append, digit_passes}
use Rattle.fixed_core.proofs.NumeralFacts.{first_other, numeral-some, fixed-numeral, fixed-quotient}
use Rattle.fixed_core.proofs.QuotientFacts.{quotient-ok}
use Rattle.fixed_core.proofs.SpellingFacts.{short-zero, first_place}

-- the text does not go on with a digit
abbrev pub StartsOther : List ℕ → Type 0
StartsOther [] = Unit {0}
StartsOther (c ∷ cs) = is_ascii_digit c ≡ false

front_len : (ds rest : List ℕ) → AllDigits 10 ds → StartsOther rest → position_or_len (λ c. not (is_ascii_digit c)) (ds ++ rest) ≡ length ds
front_len [] [] all other = refl
front_len [] (c ∷ cs) all other = rw other refl
front_len (d ∷ ds) rest all other = rw (digit_passes d all.0, front_len ds rest all.1 other) (one-add (length ds))

-- digits, and then no digit
pub front-then : (ds rest : List ℕ) → AllDigits 10 ds → StartsOther rest → (front_digits (ds ++ rest) ≡ ds) × (after_digits (ds ++ rest) ≡ rest)
front-then ds rest all other =
    (rw (first_other (ds ++ rest), front_len ds rest all other) (take-append_seam ds rest), rw (first_other (ds ++ rest), front_len ds rest all other) (drop-append_seam ds rest))

no_sign : (ds rest : List ℕ) → AllDigits 10 ds → 0 < length ds → (is_minus (ds ++ rest) ≡ false) × (after_sign (ds ++ rest) ≡ ds ++ rest)
no_sign [] rest all some = absurd (omega arith)
no_sign (c ∷ cs) rest all some =
    let range = digit_from_value c all.0 in
    let minus : c ≢ 45 = omega (arith, range.0, range.1) in
    let plus : c ≢ 43 = omega (arith, range.0, range.1) in
    (ne_eqb c 45 minus, rw (ne_eqb c 45 minus, ne_eqb c 43 plus) refl)

-- digits after a number
pub after_shift : (n : ℕ) (ds : List ℕ) → digits_value_after 10 n ds ≡ n * 10 ^ length ds + digits_value 10 ds
after_shift n [] = omega arith
after_shift n (c ∷ cs) =
    let one = after_shift (n * 10 + digit_value c) cs in
    let two = after_shift (0 * 10 + digit_value c) cs in
    let power : 10 ^ suc (length cs) ≡ 10 ^ length cs * 10 = pow-suc 10 (length cs) in
    rw (one, two, power) (omega arith)

-- one more digit in front
pub one_more : (k s c : ℕ) (ds : List ℕ) → digit_value c ≡ s / 10 ^ k → length ds ≤ k → digits_value 10 ds * 10 ^ (k - length ds) ≡ s % 10 ^ k
    → digits_value 10 (c ∷ ds) * 10 ^ (suc k - length (c ∷ ds)) ≡ s
one_more k s c ds digit few value =
    let shift = after_shift (0 * 10 + digit_value c) ds in
    let less : suc k - suc (length ds) ≡ k - length ds = omega arith in
    let parts : k ≡ length ds + (k - length ds) = omega arith in
    let joined : 10 ^ k ≡ 10 ^ length ds * 10 ^ (k - length ds) = ap (λ i. 10 ^ i) parts ∙ pow-add 10 (length ds) (k - length ds) in
    let tens : s / 10 ^ k * 10 ^ k ≡ s / 10 ^ k * (10 ^ length ds * 10 ^ (k - length ds)) = ap (λ p. s / 10 ^ k * p) joined in
    let whole = div-add-mod' s (10 ^ k) in
    rw (less, shift, digit) (omega (arith, tens, whole, value))

pub record IsShort (k s : ℕ) : Type 0 where
  pub all : AllDigits 10 (short_digits k s)
  pub few : length (short_digits k s) ≤ k
  pub value : digits_value 10 (short_digits k s) * 10 ^ (k - length (short_digits k s)) ≡ s

pub short_digits-value : (k s : ℕ) → s < 10 ^ k → IsShort k s
unfolding short_digits
short_digits-value zero s below = record { all = tt; few = omega arith; value = omega arith }
short_digits-value (suc k) s below =
    elim (cases_Bool (s == 0)) [
      | inl none ↦
          let e : s ≡ 0 = eqb-true s 0 none in
          rw e (record { all = tt; few = omega arith; value = omega arith })
      | inr some ↦
          let not_zero : s ≢ 0 = eqb-false s 0 some in
          let ih = short_digits-value k (s % 10 ^ k) (mod_below s (10 ^ k) (pow_least k)) in
          let minus : suc k - 1 ≡ k = omega arith in
          let first : s / 10 ^ k < 10 = rw minus at (first_place (suc k) s not_zero below) in
          let code = digit_value_digit (48 + s / 10 ^ k) (omega arith, omega arith) in
          let digit : digit_value (48 + s / 10 ^ k) ≡ s / 10 ^ k = omega arith in
          let small : digit_value (48 + s / 10 ^ k) < 10 = rw digit first in
          let rest : List ℕ = short_digits k (s % 10 ^ k) in
          record {
            all = rw some (small, ih.all);
            few = rw some (omega (arith, ih.few));
            value = rw some (one_more k s (48 + s / 10 ^ k) (short_digits k (s % 10 ^ k)) digit ih.few ih.value);
          }
    ]

point-starts : (s : ℕ) → StartsOther (point_digits s)
point-starts s = elim (cases_Bool (s == 0)) [ inl none ↦ rw none tt | inr some ↦ rw some refl ]

point-fraction : (s : ℕ) → s < 10 ^ 18 → (fraction_digits (point_digits s) ≡ short_digits 18 s) × (after_fraction (point_digits s) ≡ [])
point-fraction s below =
    elim (cases_Bool (s == 0)) [
      | inl none ↦ let e : s ≡ 0 = eqb-true s 0 none in rw (e, short-zero 18) (refl, refl)
      | inr some ↦
          let short = short_digits-value 18 s below in
          let front = front-then (short_digits 18 s) [] short.all tt in
          rw some (rw (append-nil (short_digits 18 s)) at front.0, rw (append-nil (short_digits 18 s)) at front.1)
    ]

-- the numeral of a spelling
pub spelling-numeral : (negative : Bool) (n : ℕ) → n ≤ 10 ^ 36
    → numeral_of (spelling_of negative n) ≡ Some (record { negative = negative; whole = decimal (n / 10 ^ 18); fraction = short_digits 18 (n % 10 ^ 18); lowers = false; exponent = [] })
spelling-numeral negative n small =
    let rest = mod_below n (10 ^ 18) (pow_least 18) in
    let quotient : n / 10 ^ 18 ≤ n = omega arith in
    let wide : n / 10 ^ 18 < 10 ^ 64 = omega arith in
    let digits = decimal_is_IsNumeral_wide (n / 10 ^ 18) wide in
    let sign = signs negative (decimal (n / 10 ^ 18)) (point_digits (n % 10 ^ 18)) digits.0.1 digits.0.0 in
    let front = front-then (decimal (n / 10 ^ 18)) (point_digits (n % 10 ^ 18)) digits.0.1 (point-starts (n % 10 ^ 18)) in
    let point = point-fraction (n % 10 ^ 18) rest in
    let some : length (decimal (n / 10 ^ 18)) + length (short_digits 18 (n % 10 ^ 18)) ≢ 0 = omega (arith, digits.0.0) in
    rw sign.0 at (numeral-some (spelling_of negative n) (decimal (n / 10 ^ 18) ++ point_digits (n % 10 ^ 18)) (decimal (n / 10 ^ 18)) (point_digits (n % 10 ^ 18)) (short_digits 18 (n % 10 ^ 18)) []
    (sym sign.1) (sym front.0) (sym front.1) (sym point.0) some (sym point.1))
  where
    signs : (b : Bool) (ds more : List ℕ) → AllDigits 10 ds → 0 < length ds → (is_minus (sign_text b ++ (ds ++ more)) ≡ b) × (after_sign (sign_text b ++ (ds ++ more)) ≡ ds ++ more)
    signs true ds more all there = (refl, refl)
    signs false ds more all there = no_sign ds more all there

-- the number that the digits of a spelling write
spelling-value : (n : ℕ) (whole fraction : List ℕ) → digits_value 10 whole ≡ n / 10 ^ 18 → length fraction ≤ 18 → digits_value 10 fraction * 10 ^ (18 - length fraction) ≡ n % 10 ^ 18
    → n ≡ digits_value 10 (whole ++ fraction) * 10 ^ (18 - length fraction)
spelling-value n whole fraction is few value =
    let joined = digits_after_append 0 whole fraction ∙ after_shift (digits_value 10 whole) fraction in
    let parts : 18 ≡ length fraction + (18 - length fraction) = omega arith in
    let powers : 10 ^ 18 ≡ 10 ^ length fraction * 10 ^ (18 - length fraction) = ap (λ i. 10 ^ i) parts ∙ pow-add 10 (length fraction) (18 - length fraction) in
    let tens : n / 10 ^ 18 * 10 ^ 18 ≡ n / 10 ^ 18 * (10 ^ length fraction * 10 ^ (18 - length fraction)) = ap (λ p. n / 10 ^ 18 * p) powers in
    let all = div-add-mod' n (10 ^ 18) in
    rw (joined, is) (omega (arith, tens, all, value))

-- the spelling of a number reads as that number
pub reads-back : (negative : Bool) (n : ℕ) → n ≤ 10 ^ 36 → fixed_of (spelling_of negative n) ≡ Ok (signed negative n)
reads-back negative n small =
    let short = short_digits-value 18 (n % 10 ^ 18) (mod_below n (10 ^ 18) (pow_least 18)) in
    let wide : n / 10 ^ 18 < 10 ^ 64 = omega arith in
    let digits = decimal_is_IsNumeral_wide (n / 10 ^ 18) wide in
    let value = spelling-value n (decimal (n / 10 ^ 18)) (short_digits 18 (n % 10 ^ 18)) digits.1 short.few short.value in
    let same : digits_value 10 (decimal (n / 10 ^ 18) ++ short_digits 18 (n % 10 ^ 18)) ≡ digits_value 10 (decimal (n / 10 ^ 18) ++ short_digits 18 (n % 10 ^ 18)) * 10 ^ 0 = omega arith in
    fixed-numeral _ _ (spelling-numeral negative n small) ∙ fixed-quotient _
    ∙ quotient-ok negative _ (digits_value 10 (decimal (n / 10 ^ 18) ++ short_digits 18 (n % 10 ^ 18))) 0 18 (length (short_digits 18 (n % 10 ^ 18)) + 0) same
    (18 - length (short_digits 18 (n % 10 ^ 18))) n (omega (arith, short.few)) value small

-- every number's spelling
pub spelling-reads : (z : ℤ) → unsigned_abs z ≤ 10 ^ 36 → fixed_of (spelling z) ≡ Ok z
spelling-reads (pos n) small = reads-back false n small
spelling-reads (negsuc n) small = reads-back true (suc n) small
