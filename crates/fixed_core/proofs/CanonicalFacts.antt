-- A canonical text is the spelling of its number, and each spelling is canonical.
use Rattle.std.proofs.Common.{◌≡◌, ◌≢◌, ℕ, zero, suc, ◌+◌, ◌-◌, ◌*◌, ◌/◌, ◌%◌, ◌^◌, ◌<◌, ◌≤◌, ◌==◌, List, [], ◌∷◌, ◌++◌, length, get_or, drop, Bool, true, false, Some, Ok, refl, sym, ap, ◌∙◌, inl, inr, arith}
use Rattle.std.specs.Prelude.{decimal, Result, Err, ℤ, pos, negsuc, unsigned_abs, nat_le}
use Rattle.std.specs.Result.{result_unwrap_or}
use Rattle.std.specs.Char.{digit_value}
use Rattle.std.specs.Str.Parse.{AllDigits, digits_value, digits_value_after}
use Rattle.std.proofs.lemmas.Bool.{cases_Bool, eqb-true, eqb-false, ne_eqb, leb-true, leb-false}
use Rattle.std.proofs.lemmas.Str.{digit_value_digit}
use Rattle.std.proofs.lemmas.Str.Parse.{digit_from_value, IsNumeralModel}
use Rattle.std.proofs.lemmas.Fmt.{decimal-digits_value, decimal_is_IsNumeral, decimal_digit, first_decimal}
use Rattle.std.proofs.lemmas.Int.Digits.{digits_value-lt}
use Rattle.std.proofs.lemmas.List.{append-nil}
use Rattle.std.proofs.lemmas.Nat.{div-mul-add, mod-mul-add, mod_below, pow-add, div-add-mod'}
use Rattle.std.proofs.Math.Nat.{pow-succ', mul-le-mul_right, mul-le-mul_left}
use Rattle.fixed_core.specs.Numeral.{Numeral, numeral_of}
use Rattle.fixed_core.specs.Spells.{IsSign, IsFraction}
use Rattle.fixed_core.specs.Value.{fixed_of, signed}
use Rattle.fixed_core.specs.Spelling.{short_digits, point_digits, sign_text, spelling_of, spelling}
use Rattle.fixed_core.specs.Canonical.{IsWholePart, point_text, EndsInNoZero, IsCanonical}
use Rattle.fixed_core.specs.declared.fault.FixedFault.{FixedFault}
use Rattle.fixed_core.specs.declared.fault.FixedFault.TheVariants.{Range}
use Rattle.fixed_core.proofs.PowerFacts.{pow_least}
use Rattle.fixed_core.proofs.DigitFacts.{digits_after_append}
use Rattle.fixed_core.proofs.NumeralFacts.{fixed-numeral, fixed-quotient}
use Rattle.fixed_core.proofs.QuotientFacts.{quotient-ok, quotient-range}
use Rattle.fixed_core.proofs.ReadsBack.{after_shift, short_digits-value}
use Rattle.fixed_core.proofs.SpellingFacts.{short-zero, short-more}
use Rattle.fixed_core.proofs.Spelled.{computed}

own : IsNumeralModel (AllDigits 10) (digits_value 10)
own = record { to = λ ds h. h; from = λ ds h. h; same = λ ds h. refl }

ends_after : (d : ℕ) (ds : List ℕ) → EndsInNoZero (d ∷ ds) → EndsInNoZero ds
ends_after d ds h = λ front e. h (d ∷ front) (ap (λ t. d ∷ t) e)

digit_of : (d : ℕ) → digit_value d < 10 → 48 + digit_value d ≡ d
digit_of d h = let range = digit_from_value d h in let value = digit_value_digit d range in omega (arith, value, range.0)

-- digits that end in no zero write a number that is not 0
not_zero : (d : ℕ) (ds : List ℕ) → AllDigits 10 (d ∷ ds) → EndsInNoZero (d ∷ ds) → digits_value 10 (d ∷ ds) ≢ 0
not_zero d [] all ends = λ none. ends [] (let code = digit_of d all.0 in let zero_digit : d ≡ 48 = omega (arith, code, none) in ap (λ c. c ∷ []) zero_digit)
not_zero d (e ∷ ds) all ends = λ none.
    let sum : digits_value 10 (d ∷ e ∷ ds) ≡ (0 * 10 + digit_value d) * 10 ^ length (e ∷ ds) + digits_value 10 (e ∷ ds) = after_shift (0 * 10 + digit_value d) (e ∷ ds) in
    let rest : digits_value 10 (e ∷ ds) ≡ 0 = omega (arith, sum, none) in
    not_zero e ds all.1 (ends_after d (e ∷ ds) ends) rest

-- digits after a number, moved to k places
shifted_value : (n k : ℕ) (ds : List ℕ) → length ds ≤ k → digits_value_after 10 n ds * 10 ^ (k - length ds) ≡ n * 10 ^ k + digits_value 10 ds * 10 ^ (k - length ds)
shifted_value n k ds few =
    let shift = after_shift n ds in
    let parts : k ≡ length ds + (k - length ds) = omega arith in
    let joined : 10 ^ k ≡ 10 ^ length ds * 10 ^ (k - length ds) = ap (λ i. 10 ^ i) parts ∙ pow-add 10 (length ds) (k - length ds) in
    let tens : n * 10 ^ k ≡ n * (10 ^ length ds * 10 ^ (k - length ds)) = ap (λ p. n * p) joined in
    rw shift (omega (arith, tens))

-- and stays below them
shifted_below : (k : ℕ) (ds : List ℕ) → AllDigits 10 ds → length ds ≤ k → digits_value 10 ds * 10 ^ (k - length ds) < 10 ^ k
shifted_below k ds all few =
    let below = digits_value-lt 10 ds all in
    let parts : k ≡ length ds + (k - length ds) = omega arith in
    let joined : 10 ^ k ≡ 10 ^ length ds * 10 ^ (k - length ds) = ap (λ i. 10 ^ i) parts ∙ pow-add 10 (length ds) (k - length ds) in
    let more : (digits_value 10 ds + 1) * 10 ^ (k - length ds) ≤ 10 ^ length ds * 10 ^ (k - length ds) = mul-le-mul_right (10 ^ (k - length ds)) (omega (arith, below)) in
    omega (arith, joined, more, pow_least (k - length ds))

shifted_some : (d k : ℕ) (ds : List ℕ) → AllDigits 10 (d ∷ ds) → EndsInNoZero (d ∷ ds) → digits_value 10 (d ∷ ds) * 10 ^ (k - length (d ∷ ds)) ≢ 0
shifted_some d k ds all ends = λ none.
    let least : digits_value 10 (d ∷ ds) * 1 ≤ digits_value 10 (d ∷ ds) * 10 ^ (k - length (d ∷ ds)) = mul-le-mul_left (digits_value 10 (d ∷ ds)) (pow_least (k - length (d ∷ ds))) in
    let nothing : digits_value 10 (d ∷ ds) ≡ 0 = omega (arith, least, none) in
    not_zero d ds all ends nothing

one_place : (k s d rest : ℕ) (ds : List ℕ) → s ≡ digit_value d * 10 ^ k + rest → rest < 10 ^ k → s ≢ 0 → digit_value d < 10 → short_digits k rest ≡ ds → short_digits (suc k) s ≡ d ∷ ds
one_place k s d rest ds value below some digit ih =
    let minus : suc k - 1 ≡ k = omega arith in
    let first : s / 10 ^ k ≡ digit_value d = ap (λ n. n / 10 ^ k) value ∙ div-mul-add (digit_value d) (10 ^ k) rest below in
    let left : s % 10 ^ k ≡ rest = ap (λ n. n % 10 ^ k) value ∙ mod-mul-add (digit_value d) (10 ^ k) rest below in
    let power : 10 ^ suc k ≡ 10 * 10 ^ k = pow-succ' 10 k in
    let place : digit_value d * 10 ^ k ≤ 9 * 10 ^ k = mul-le-mul_right (10 ^ k) (omega arith) in
    let bound : s < 10 ^ suc k = rw power (omega (arith, value, below, place)) in
    rw (minus, first, left, digit_of d digit, ih) at (short-more (suc k) s some bound)

-- digits that end in no zero are written again
short_digits_of : (k : ℕ) (ds : List ℕ) → AllDigits 10 ds → length ds ≤ k → EndsInNoZero ds → short_digits k (digits_value 10 ds * 10 ^ (k - length ds)) ≡ ds
short_digits_of k [] all few ends = let none : digits_value 10 [] * 10 ^ (k - length {A = ℕ} []) ≡ 0 = omega arith in rw none (short-zero k)
short_digits_of zero (d ∷ ds) all few ends = absurd (omega arith)
short_digits_of (suc k) (d ∷ ds) all few ends =
    let within : length ds ≤ k = omega arith in
    let less : suc k - length (d ∷ ds) ≡ k - length ds = omega arith in
    let value : digits_value 10 (d ∷ ds) * 10 ^ (suc k - length (d ∷ ds)) ≡ digit_value d * 10 ^ k + digits_value 10 ds * 10 ^ (k - length ds) =
    rw less (let sum = shifted_value (0 * 10 + digit_value d) k ds within in omega (arith, sum)) in
    one_place k (digits_value 10 (d ∷ ds) * 10 ^ (suc k - length (d ∷ ds))) d (digits_value 10 ds * 10 ^ (k - length ds)) ds value (shifted_below k ds all.1 within)
    (shifted_some d (suc k) ds all ends) all.0 (short_digits_of k ds all.1 within (ends_after d ds ends))

point_of : (ds : List ℕ) → AllDigits 10 ds → length ds ≤ 18 → EndsInNoZero ds → point_digits (digits_value 10 ds * 10 ^ (18 - length ds)) ≡ point_text ds
point_of [] all few ends = refl
point_of (d ∷ ds) all few ends =
    rw (ne_eqb (digits_value 10 (d ∷ ds) * 10 ^ (18 - length (d ∷ ds))) 0 (shifted_some d 18 ds all ends)) (ap (λ t. 46 ∷ t) (short_digits_of 18 (d ∷ ds) all few ends))

-- the whole part
whole_digits : (ds : List ℕ) → IsWholePart ds → AllDigits 10 ds
whole_digits [] h = absurd h
whole_digits (d ∷ ds) h = h.0

whole_some : (ds : List ℕ) → IsWholePart ds → 0 < length ds
whole_some [] h = absurd h
whole_some (d ∷ ds) h = omega arith

whole_first : (ds : List ℕ) → IsWholePart ds → get_or ds 0 0 ≡ 48 → length ds ≡ 1
whole_first [] h first = absurd h
whole_first (d ∷ ds) h first = let none : length ds ≡ 0 = ap (λ t. length t) (h.1 first) in omega (arith, none)

whole_part : (ds : List ℕ) → AllDigits 10 ds → 0 < length ds → (get_or ds 0 0 ≡ 48 → length ds ≡ 1) → IsWholePart ds
whole_part [] all some first = absurd (omega arith)
whole_part (d ∷ []) all some first = (all, λ h. refl)
whole_part (d ∷ e ∷ ds) all some first = (all, λ h. let one : length (d ∷ e ∷ ds) ≡ 1 = first h in absurd (omega (arith, one)))

point_is : (ds : List ℕ) → IsFraction ds (point_text ds)
point_is [] = inr (refl, refl)
point_is (d ∷ ds) = inl refl

sign_is : (negative : Bool) → IsSign negative (sign_text negative)
sign_is true = refl
sign_is false = inr refl

-- the numeral of a canonical text
abbrev numeral : (text : List ℕ) → IsCanonical text → Numeral
numeral text c = record { negative = c.negative; whole = c.whole; fraction = c.fraction; lowers = false; exponent = [] }

canonical_numeral : (text : List ℕ) (c : IsCanonical text) → numeral_of text ≡ Some (numeral text c)
canonical_numeral text c = computed text (numeral text c) (record {
  sign = sign_text c.negative;
  point = point_text c.fraction;
  power = [];
  is = c.is ∙ ap (λ t. sign_text c.negative ++ (c.whole ++ t)) (sym (append-nil (point_text c.fraction)));
  is_sign = sign_is c.negative;
  is_fraction = point_is c.fraction;
  is_exponent = inr (refl, refl, refl);
  whole = whole_digits c.whole c.is_whole;
  fraction = c.digits;
  exponent = tt;
  some = let there = whole_some c.whole c.is_whole in omega (arith, there);
})

signed_spelling : (negative : Bool) (n : ℕ) → (negative ≡ true → n ≢ 0) → spelling (signed negative n) ≡ spelling_of negative n
signed_spelling true zero some = absurd (some refl refl)
signed_spelling true (suc n) some = refl
signed_spelling false n some = refl

ok_value : (y z : ℤ) → ◌≡◌ {A = Result ℤ FixedFault} (Ok y) (Ok z) → y ≡ z
ok_value y z e = ap (λ r. result_unwrap_or r (pos 0)) e

module _ (text : List ℕ) (c : IsCanonical text) where
  -- the units before and after the point
  abbrev whole_units : ℕ
  whole_units = digits_value 10 c.whole

  abbrev rest_units : ℕ
  rest_units = digits_value 10 c.fraction * 10 ^ (18 - length c.fraction)

  abbrev units : ℕ
  units = digits_value 10 (c.whole ++ c.fraction) * 10 ^ (18 - length c.fraction)

  units_are : units ≡ whole_units * 10 ^ 18 + rest_units
  units_are = ap (λ v. v * 10 ^ (18 - length c.fraction)) (digits_after_append 0 c.whole c.fraction) ∙ shifted_value whole_units 18 c.fraction c.few

  rest_below : rest_units < 10 ^ 18
  rest_below = shifted_below 18 c.fraction c.digits c.few

  canonical_answer : (z : ℤ) → fixed_of text ≡ Ok z → (units ≤ 10 ^ 36) × (signed c.negative units ≡ z)
  canonical_answer z reads =
      let n : Numeral = numeral text c in
      let value = digits_value 10 (c.whole ++ c.fraction) in
      let same : value ≡ value * 10 ^ 0 = omega arith in
      let moved : 0 + 18 ≡ 18 - length c.fraction + (length c.fraction + 0) = omega (arith, c.few) in
      let quotient = fixed-numeral text n (canonical_numeral text c) ∙ fixed-quotient n in
      elim (cases_Bool (nat_le units (10 ^ 36))) [
        | inl small ↦
            let bound = leb-true units (10 ^ 36) small in
            (bound, ok_value (signed c.negative units) z (sym (quotient ∙ quotient-ok c.negative value value 0 18 (length c.fraction + 0) same (18 - length c.fraction) units moved refl bound) ∙ reads))
        | inr large ↦
            let range = quotient ∙ quotient-range c.negative value value 0 18 (length c.fraction + 0) same (18 - length c.fraction) moved (leb-false units (10 ^ 36) large) in
            absurd (let bad : ◌≡◌ {A = Result ℤ FixedFault} (Err Range) (Ok z) = sym range ∙ reads in cc)
      ]

  whole_again : units ≤ 10 ^ 36 → decimal whole_units ≡ c.whole
  whole_again small =
      let sum = units_are in
      let fits : whole_units < 2 ^ 64 = omega (arith, small, sum) in
      decimal-digits_value own c.whole (whole_digits c.whole c.is_whole) (whole_some c.whole c.is_whole) (whole_first c.whole c.is_whole) fits

  zero_rest : units ≡ 0 → c.fraction ≡ []
  zero_rest none = by c.fraction c.digits c.ends (let sum = units_are in omega (arith, sum, none))
    where
      by : (ds : List ℕ) → AllDigits 10 ds → EndsInNoZero ds → digits_value 10 ds * 10 ^ (18 - length ds) ≡ 0 → ds ≡ []
      by [] all ends nothing = refl
      by (d ∷ ds) all ends nothing = absurd (shifted_some d 18 ds all ends nothing)

  not_minus_zero : c.negative ≡ true → units ≢ 0
  not_minus_zero minus = λ none.
      let sum = units_are in
      let small : units ≤ 10 ^ 36 = omega (arith, none) in
      let zero_whole : whole_units ≡ 0 = omega (arith, sum, none) in
      let written : c.whole ≡ 48 ∷ [] = sym (whole_again small) ∙ ap (λ n. decimal n) zero_whole ∙ decimal_digit 0 (omega arith) in
      c.no_minus_zero minus written (zero_rest none)

  units_spelling : units ≤ 10 ^ 36 → text ≡ spelling_of c.negative units
  units_spelling small =
      let quotient : units / 10 ^ 18 ≡ whole_units = ap (λ n. n / 10 ^ 18) units_are ∙ div-mul-add whole_units (10 ^ 18) rest_units rest_below in
      let left : units % 10 ^ 18 ≡ rest_units = ap (λ n. n % 10 ^ 18) units_are ∙ mod-mul-add whole_units (10 ^ 18) rest_units rest_below in
      rw (quotient, left, whole_again small, point_of c.fraction c.digits c.few c.ends) c.is

  -- a canonical text is the spelling of the number that it reads as
  pub canonical_spelling : (z : ℤ) → fixed_of text ≡ Ok z → text ≡ spelling z
  canonical_spelling z reads =
      let answer = canonical_answer z reads in
      units_spelling answer.0 ∙ sym (signed_spelling c.negative units not_minus_zero) ∙ ap (λ y. spelling y) answer.1

nil_ends : EndsInNoZero []
nil_ends [] = λ e. cc
nil_ends (x ∷ xs) = λ e. cc

tails : (x y : ℕ) (xs ys : List ℕ) → x ∷ xs ≡ y ∷ ys → (x ≡ y) × (xs ≡ ys)
tails x y xs ys e = (ap (λ t. get_or t 0 0) e, ap (λ t. drop 1 t) e)

ends_more : (k s : ℕ) → s ≢ 0 → digits_value 10 (short_digits k (s % 10 ^ k)) * 10 ^ (k - length (short_digits k (s % 10 ^ k))) ≡ s % 10 ^ k → EndsInNoZero (short_digits k (s % 10 ^ k))
    → EndsInNoZero ((48 + s / 10 ^ k) ∷ short_digits k (s % 10 ^ k))
ends_more k s some value ih [] = λ e.
    let parts = tails (48 + s / 10 ^ k) 48 (short_digits k (s % 10 ^ k)) [] e in
    let zero_left : s % 10 ^ k ≡ 0 = sym value ∙ ap (λ ds. digits_value 10 ds * 10 ^ (k - length ds)) parts.1 ∙ omega arith in
    let zero_first : s / 10 ^ k ≡ 0 = omega (arith, parts.0) in
    let whole = div-add-mod' s (10 ^ k) in
    let nothing : s / 10 ^ k * 10 ^ k ≡ 0 = ap (λ q. q * 10 ^ k) zero_first ∙ omega arith in
    some (omega (arith, whole, nothing, zero_left))
ends_more k s some value ih (x ∷ xs) = λ e. ih xs (tails (48 + s / 10 ^ k) x (short_digits k (s % 10 ^ k)) (xs ++ 48 ∷ []) e).1

-- a fraction is written with no zero at its end
short_ends : (k s : ℕ) → s < 10 ^ k → EndsInNoZero (short_digits k s)
unfolding short_digits
short_ends zero s below = nil_ends
short_ends (suc k) s below =
    elim (cases_Bool (s == 0)) [
      | inl none ↦ rw none nil_ends
      | inr some ↦
          let left = mod_below s (10 ^ k) (pow_least k) in
          rw some (ends_more k s (eqb-false s 0 some) (short_digits-value k (s % 10 ^ k) left).value (short_ends k (s % 10 ^ k) left))
    ]

point_same : (s : ℕ) → s < 10 ^ 18 → point_digits s ≡ point_text (short_digits 18 s)
point_same s below =
    elim (cases_Bool (s == 0)) [
      | inl none ↦ let e : s ≡ 0 = eqb-true s 0 none in rw (e, short-zero 18) refl
      | inr some ↦ rw (some, short-more 18 s (eqb-false s 0 some) below) refl
    ]

decimal_whole : (n : ℕ) → n < 2 ^ 64 → IsWholePart (decimal n)
decimal_whole n fits =
    let digits = decimal_is_IsNumeral n fits in
    elim (cases_Bool (n == 0)) [
      | inl none ↦ let e : decimal n ≡ 48 ∷ [] = ap (λ m. decimal m) (eqb-true n 0 none) ∙ decimal_digit 0 (omega arith) in
          whole_part (decimal n) digits.0.1 digits.0.0 (λ h. ap (λ t. length t) e)
      | inr some ↦ whole_part (decimal n) digits.0.1 digits.0.0
          (λ h. absurd (let there : n ≢ 0 = eqb-false n 0 some in let first = first_decimal n (omega (arith, there)) fits in omega (arith, first, h)))
    ]

spelling_canonical : (negative : Bool) (n : ℕ) → n ≤ 10 ^ 36 → (negative ≡ true → n ≢ 0) → IsCanonical (spelling_of negative n)
spelling_canonical negative n small some =
    let left = mod_below n (10 ^ 18) (pow_least 18) in
    let fits : n / 10 ^ 18 < 2 ^ 64 = omega (arith, small) in
    let short = short_digits-value 18 (n % 10 ^ 18) left in
    record {
      negative = negative;
      whole = decimal (n / 10 ^ 18);
      fraction = short_digits 18 (n % 10 ^ 18);
      is = ap (λ t. sign_text negative ++ (decimal (n / 10 ^ 18) ++ t)) (point_same (n % 10 ^ 18) left);
      is_whole = decimal_whole (n / 10 ^ 18) fits;
      digits = short.all;
      few = short.few;
      ends = short_ends 18 (n % 10 ^ 18) left;
      no_minus_zero = λ minus zero_whole none. some minus
          (let value : n / 10 ^ 18 ≡ 0 = sym (decimal_is_IsNumeral (n / 10 ^ 18) fits).1 ∙ ap (λ ds. digits_value 10 ds) zero_whole in
          let rest : n % 10 ^ 18 ≡ 0 = sym short.value ∙ ap (λ ds. digits_value 10 ds * 10 ^ (18 - length ds)) none ∙ omega arith in
          omega (arith, value, rest));
    }

pub spelling_is_canonical : (z : ℤ) → unsigned_abs z ≤ 10 ^ 36 → IsCanonical (spelling z)
spelling_is_canonical (pos n) small = spelling_canonical false n small (λ e. absurd cc)
spelling_is_canonical (negsuc n) small = spelling_canonical true (suc n) small (λ e. omega arith)
