-- Words that are written are the words that are read, and the other way round.
use Rattle.std.proofs.Common.{◌≡◌, ◌≢◌, ℕ, ◌+◌, ◌*◌, ◌/◌, ◌%◌, ◌^◌, ◌<◌, ◌≤◌, ◌==◌, ◌||◌, not, Bool, true, false, cond, List, [], ◌∷◌, ◌++◌, length, get_or, Option, Some, None, refl, sym, ◌∙◌, ap, arith, eq-eqb, subst, inl, inr}
use Rattle.std.specs.Prelude.{option_map, decimal, codes}
use Rattle.std.specs.List.{All, slice_split, join_with_byte}
use Rattle.std.specs.Str.{all_ascii_digits}
use Rattle.std.specs.Str.Parse.{digits_value}
use Rattle.std.proofs.lemmas.Bool.{false≢true, cases_lt, and_parts, cases_Bool, eqb-true, le-leb, leb-true, lt-ltb, ltb-true, ne_eqb, or_cases, or_right}
use Rattle.std.proofs.lemmas.Bool.Decides.{eqb_tells}
use Rattle.std.proofs.lemmas.List.Elements.{All-cons, All-nil, All-head, All-tail, All-append}
use Rattle.std.proofs.lemmas.List.Splits.{slice_split_none, slice_split_at}
use Rattle.std.proofs.lemmas.Option.{cond_some}
use Rattle.std.proofs.lemmas.Str.Parse.{IsNumeralModel, tells_all_ascii_digits, numerals_by_value}
use Rattle.std.proofs.lemmas.Fmt.{decimal_digit, decimal_nonempty, first_decimal, digits_decimal, digits_value-decimal, decimal-digits_value}
use Rattle.literals_core.specs.Literal.{variable_of}
use Rattle.chain_core.specs.Literal.{has_minus}
use Rattle.chain_core.specs.Text.{literal_word}
use Rattle.chain_core.specs.Reading.{number_in, place_in}
use Rattle.chain_core.proofs.NumberLemmas.{number_by, plain_place}

own : IsNumeralModel (λ ds. all_ascii_digits ds ≡ true) (digits_value 10)
own = numerals_by_value (λ ds. all_ascii_digits ds ≡ true) tells_all_ascii_digits

-- what the four tests of a number say
record IsNumber (word : List ℕ) (n : ℕ) : Type 0 where
  some : 0 < length word
  digits : all_ascii_digits word ≡ true
  plain : (length word == 1 || not (get_or word 0 0 == 48)) ≡ true
  small : digits_value 10 word ≤ 4294967295
  value : digits_value 10 word ≡ n

number_told : (word : List ℕ) (n : ℕ) → number_in word ≡ Some n → IsNumber word n
number_told word n is =
    let all = cond_some _ _ _ is in
    let three = and_parts _ _ all.0 in
    let two = and_parts _ _ three.0 in
    let one = and_parts _ _ two.0 in
    record { some = ltb-true 0 (length word) one.0; digits = one.1; plain = two.1; small = leb-true (digits_value 10 word) 4294967295 three.1; value = all.1 }

pub number_small : (word : List ℕ) (n : ℕ) → number_in word ≡ Some n → n ≤ 4294967295
number_small word n is = let told = number_told word n is in omega (arith, told.small, told.value)

plain_length : (word : List ℕ) → (length word == 1 || not (get_or word 0 0 == 48)) ≡ true → get_or word 0 0 ≡ 48 → length word ≡ 1
plain_length word plain zero' =
    elim (or_cases (length word == 1) (not (get_or word 0 0 == 48)) plain) [
      | inl one ↦ eqb-true (length word) 1 one
      | inr other ↦ absurd (false≢true (sym (ap not (eq-eqb (get_or word 0 0) 48 zero')) ∙ other))
    ]

-- a word that is read as a number is its text
pub word_of_number : (word : List ℕ) (n : ℕ) → number_in word ≡ Some n → word ≡ decimal n
word_of_number word n is =
    let told = number_told word n is in
    let fits : digits_value 10 word < 2 ^ 64 = omega (arith, told.small) in
    sym (decimal-digits_value own word told.digits told.some (plain_length word told.plain) fits) ∙ ap decimal told.value

decimal_plain : (n : ℕ) → n < 2 ^ 64 → (length (decimal n) == 1 || not (get_or (decimal n) 0 0 == 48)) ≡ true
decimal_plain n fits =
    elim (cases_lt n 10) [
      | inl small ↦ ap (λ w. length w == 1 || not (get_or w 0 0 == 48)) (decimal_digit n small)
      | inr large ↦
          (let first = first_decimal n (omega arith) fits in
          or_right (length (decimal n) == 1) (not (get_or (decimal n) 0 0 == 48)) (ap not (ne_eqb (get_or (decimal n) 0 0) 48 (λ e. absurd (omega (arith, first, e))))))
    ]

-- and the text of a number is read as it
pub decimal_number : (n : ℕ) → n ≤ 4294967295 → number_in (decimal n) ≡ Some n
decimal_number n small =
    let fits : n < 2 ^ 64 = omega arith in
    let value = digits_value-decimal own n fits in
    let low : digits_value 10 (decimal n) ≤ 4294967295 = omega (arith, value, small) in
    number_by (decimal n) true true true true (lt-ltb 0 (length (decimal n)) (decimal_nonempty n fits)) (digits_decimal own n fits) (decimal_plain n fits) (le-leb (digits_value 10 (decimal n)) 4294967295 low) ∙ ap Some value

pub zero_number : number_in (codes "0") ≡ Some 0
zero_number = refl

-- literals
literal_by_sign : (l v : ℕ) (b : Bool) → has_minus l ≡ b → variable_of l ≡ v → literal_word l ≡ cond b (codes "-") [] ++ decimal v
literal_by_sign l v b sign variable = ap (λ t. cond t (codes "-") [] ++ decimal (variable_of l)) sign ∙ ap (λ n. cond b (codes "-") [] ++ decimal n) variable

pub some_of : (f : ℕ → ℕ) (o : Option ℕ) (p : ℕ) → option_map f o ≡ Some p → (v : ℕ) × (o ≡ Some v) × (f v ≡ p)
some_of f None p is = absurd cc
some_of f (Some v) p is = let same : f v ≡ p = cc in (v, refl, same)

pub word_of_place : (word : List ℕ) (p : ℕ) → place_in word ≡ Some p → 2 ≤ p → word ≡ literal_word p
word_of_place [] p is least = absurd cc
word_of_place (c ∷ word) p is least =
    elim (eqb_tells c 45) [
      | inl minus ↦
          (let read : option_map (λ v. 2 * v + 1) (number_in word) ≡ Some p = sym (ap (λ b. cond b (option_map (λ v. 2 * v + 1) (number_in word)) (option_map (λ v. 2 * v) (number_in (c ∷ word)))) minus.0) ∙ is in
          let v = some_of (λ v. 2 * v + 1) (number_in word) p read in
          let sign : has_minus p ≡ true = eq-eqb (p % 2) 1 (omega (arith, v.2)) in
          ap (λ x. x ∷ word) minus.1 ∙ ap (λ w. 45 ∷ w) (word_of_number word v.0 v.1) ∙ sym (literal_by_sign p v.0 true sign (omega (arith, v.2))))
      | inr plain ↦
          (let read : option_map (λ v. 2 * v) (number_in (c ∷ word)) ≡ Some p = sym (plain_place word c plain.1) ∙ is in
          let v = some_of (λ v. 2 * v) (number_in (c ∷ word)) p read in
          let sign : has_minus p ≡ false = ne_eqb (p % 2) 1 (λ e. absurd (omega (arith, v.2, e))) in
          word_of_number (c ∷ word) v.0 v.1 ∙ sym (literal_by_sign p v.0 false sign (omega (arith, v.2))))
    ]

-- a number's word has no minus
plain_word : (word : List ℕ) (v : ℕ) → number_in word ≡ Some v → place_in word ≡ Some (2 * v)
plain_word [] v is = absurd cc
plain_word (c ∷ word) v is =
    let told = number_told (c ∷ word) v is in
    let range = tells_all_ascii_digits.parts c word told.digits in
    let other : c ≢ 45 = omega (arith, range.0.0, range.0.1) in
    plain_place word c other ∙ ap (option_map (λ v. 2 * v)) is

pub literal_place : (p : ℕ) → 2 ≤ p → p ≤ 4294967295 → place_in (literal_word p) ≡ Some p
literal_place p least most =
    let read : number_in (decimal (p / 2)) ≡ Some (p / 2) = decimal_number (p / 2) (omega arith) in
    elim (eqb_tells (p % 2) 1) [
      | inl minus ↦
          (let whole : 2 * (p / 2) + 1 ≡ p = omega (arith, minus.1) in
          ap place_in (literal_by_sign p (p / 2) true minus.0 refl) ∙ ap (option_map (λ v. 2 * v + 1)) read ∙ ap Some whole)
      | inr plain ↦
          (let other : p % 2 ≢ 1 = plain.1 in
          let whole : 2 * (p / 2) ≡ p = omega (arith, other) in
          ap place_in (literal_by_sign p (p / 2) false plain.0 refl) ∙ plain_word (decimal (p / 2)) (p / 2) read ∙ ap Some whole)
    ]

-- words and lines are parted where they were joined
pub split_join : (c : ℕ) (first : List ℕ) (words : List (List ℕ)) → All (λ b. (b == c) ≡ false) first → All (λ w. All (λ b. (b == c) ≡ false) w) words → slice_split (λ b. b == c) (join_with_byte c (first ∷ words)) ≡ first ∷ words
split_join c first [] here all = slice_split_none (λ b. b == c) first here
split_join c first (second ∷ words) here all =
    slice_split_at (λ b. b == c) first c (join_with_byte c (second ∷ words)) here (eq-eqb c c refl)
    ∙ ap (λ ws. first ∷ ws) (split_join c second words (All-head (λ w. All (λ b. (b == c) ≡ false) w) second words all) (All-tail (λ w. All (λ b. (b == c) ≡ false) w) second words all))

pub free_joined : (c : ℕ) (words : List (List ℕ)) → (32 == c) ≡ false → All (λ w. All (λ b. (b == c) ≡ false) w) words → All (λ b. (b == c) ≡ false) (join_with_byte 32 words)
free_joined c [] space all = All-nil (λ b. (b == c) ≡ false)
free_joined c (first ∷ []) space all = All-head (λ w. All (λ b. (b == c) ≡ false) w) first [] all
free_joined c (first ∷ second ∷ words) space all =
    All-append (λ b. (b == c) ≡ false) first (32 ∷ join_with_byte 32 (second ∷ words)) (All-head (λ w. All (λ b. (b == c) ≡ false) w) first (second ∷ words) all)
    (All-cons (λ b. (b == c) ≡ false) 32 (join_with_byte 32 (second ∷ words)) space (free_joined c (second ∷ words) space (All-tail (λ w. All (λ b. (b == c) ≡ false) w) first (second ∷ words) all)))

-- digits are neither spaces nor line feeds
digits_free : (c : ℕ) → c < 48 → (xs : List ℕ) → all_ascii_digits xs ≡ true → All (λ b. (b == c) ≡ false) xs
digits_free c low [] digits = All-nil (λ b. (b == c) ≡ false)
digits_free c low (x ∷ xs) digits =
    let parts = tells_all_ascii_digits.parts x xs digits in
    let other : x ≢ c = omega (arith, parts.0.0, low) in
    All-cons (λ b. (b == c) ≡ false) x xs (ne_eqb x c other) (digits_free c low xs parts.1)

pub decimal_free : (c n : ℕ) → c < 48 → n < 2 ^ 64 → All (λ b. (b == c) ≡ false) (decimal n)
decimal_free c n low fits = digits_free c low (decimal n) (digits_decimal own n fits)

pub literal_free : (c l : ℕ) → c < 45 → l ≤ 4294967295 → All (λ b. (b == c) ≡ false) (literal_word l)
literal_free c l low most =
    let digits = decimal_free c (variable_of l) (omega arith) (omega arith) in
    elim (cases_Bool (has_minus l)) [
      | inl minus ↦
          (let P : List ℕ → Type 0 = λ w. All (λ b. (b == c) ≡ false) w in
          let other : 45 ≢ c = omega arith in
          subst P (sym (literal_by_sign l (variable_of l) true minus refl)) (All-cons (λ b. (b == c) ≡ false) 45 (decimal (variable_of l)) (ne_eqb 45 c other) digits))
      | inr plain ↦
          (let P : List ℕ → Type 0 = λ w. All (λ b. (b == c) ≡ false) w in
          subst P (sym (literal_by_sign l (variable_of l) false plain refl)) digits)
    ]
