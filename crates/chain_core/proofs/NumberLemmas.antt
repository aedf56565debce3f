-- The word at the front of a text, and the number that it writes.
use Rattle.std.proofs.Common.{◌≡◌, ◌≢◌, ℕ, suc, ◌+◌, ◌-◌, ◌*◌, ◌<◌, ◌≤◌, ◌==◌, ◌||◌, ◌&&◌, nat_lt, nat_le, not, Bool, true, false, cond, List, [], ◌∷◌, ◌++◌, length, get_or, take, drop, min, Some, None, refl, sym, ◌∙◌, ap, arith, subst, inl, inr}
use Rattle.std.specs.Prelude.{option_map}
use Rattle.std.specs.List.{All, slice_split, onto_first}
use Rattle.std.specs.Char.{is_ascii_digit, digit_value}
use Rattle.std.specs.Str.{all_ascii_digits}
use Rattle.std.specs.Str.Parse.{AllDigits, digits_value}
use Rattle.std.proofs.lemmas.Bool.{false≢true, cases_lt, and_right, cases_Bool, eqb-false, eqb-true, le-leb, le-ltb, lt-ltb, ne_eqb, not-false, or_cases, or_parts}
use Rattle.std.proofs.lemmas.Bool.Decides.{nat_tests}
use Rattle.std.proofs.lemmas.List.{take-append-drop, drop_more, take_all}
use Rattle.std.proofs.lemmas.List.Elements.{All-cons, All-nil, All-head, All-tail}
use Rattle.std.proofs.lemmas.List.Splits.{slice_split-cons_yes, slice_split-cons_no, slice_split_none, slice_split_at}
use Rattle.std.proofs.lemmas.Str.{digit_value_digit}
use Rattle.std.proofs.lemmas.Str.Parse.{digit_from_value, tells_all_ascii_digits, numerals_by_value}
use Rattle.std.proofs.lemmas.Int.Digits.{digits_more, digits_value_more}
use Rattle.chain_core.specs.Reading.{words_of, number_in, place_in}
use Rattle.chain_core.specs.Front.{words_after, StartsWith, StartsWithOther}

-- a number by the four tests of its word
pub number_by : (word : List ℕ) (a b c d : Bool) → nat_lt 0 (length word) ≡ a → all_ascii_digits word ≡ b → (length word == 1 || not (get_or word 0 0 == 48)) ≡ c → nat_le (digits_value 10 word) 4294967295 ≡ d
    → number_in word ≡ cond (a && b && c && d) (Some (digits_value 10 word)) None
number_by word a b c d pa pb pc pd =
    ap (λ t. cond (t && all_ascii_digits word && (length word == 1 || not (get_or word 0 0 == 48)) && nat_le (digits_value 10 word) 4294967295) (Some (digits_value 10 word)) None) pa
    ∙ ap (λ t. cond (a && t && (length word == 1 || not (get_or word 0 0 == 48)) && nat_le (digits_value 10 word) 4294967295) (Some (digits_value 10 word)) None) pb
    ∙ ap (λ t. cond (a && b && t && nat_le (digits_value 10 word) 4294967295) (Some (digits_value 10 word)) None) pc
    ∙ ap (λ t. cond (a && b && c && t) (Some (digits_value 10 word)) None) pd

some_length : (n : ℕ) → false ≡ (n == 0) → nat_lt 0 n ≡ true
some_length n h = grind (arith, nat_tests)

pub all_digits : (word : List ℕ) → AllDigits 10 word → all_ascii_digits word ≡ true
all_digits word digits = (numerals_by_value (λ ds. all_ascii_digits ds ≡ true) tells_all_ascii_digits).from word digits

-- a word that passes
pub number_is : (word : List ℕ) (value : ℕ) → AllDigits 10 word → false ≡ (length word == 0) → false ≡ not (length word == 1 || not (get_or word 0 0 == 48)) → value ≡ min (digits_value 10 word) 4294967296 → value ≤ 4294967295 → Some value ≡ number_in word
number_is word value digits some plain is small =
    let same : digits_value 10 word ≡ value = omega arith in
    let fits : digits_value 10 word ≤ 4294967295 = omega (arith, same, small) in
    sym (number_by word true true true true (some_length (length word) some) (all_digits word digits) (not-false _ (sym plain)) (le-leb _ _ fits) ∙ ap Some same)

-- a word that is not all digits writes no number
number_broken : (word : List ℕ) → all_ascii_digits word ≡ false → number_in word ≡ None
number_broken word broken =
    number_by word (nat_lt 0 (length word)) false _ _ refl broken refl refl
    ∙ ap (λ t. cond (t && (length word == 1 || not (get_or word 0 0 == 48)) && nat_le (digits_value 10 word) 4294967295) (Some (digits_value 10 word)) None) (and_right (nat_lt 0 (length word)) false refl)

-- one more digit of a number
pub digit_more : (text : List ℕ) (n value : ℕ) → n < length text → AllDigits 10 (take n text) → is_ascii_digit (get_or text n 0) ≡ true → value ≡ min (digits_value 10 (take n text)) 4294967296
    → AllDigits 10 (take (n + 1) text) × (min (10 * value + (get_or text n 0 - 48)) 4294967296 ≡ min (digits_value 10 (take (n + 1) text)) 4294967296)
digit_more text n value lt digits is was =
    let one : (is_ascii_digit (get_or text n 0) && true) ≡ true = ap (λ b. b && true) is in
    let range = tells_all_ascii_digits.parts (get_or text n 0) [] one in
    let code = digit_value_digit (get_or text n 0) range.0 in
    let low : digit_value (get_or text n 0) < 10 = omega (arith, code, range.0.0, range.0.1) in
    let more = digits_value_more 10 text n lt in
    (digits_more 10 text n lt digits low, omega (arith, more, was, code, range.0.0, range.0.1))

-- the parts of a text are never none
pub split_some : (p : ℕ → Bool) (xs : List ℕ) → (part : List ℕ) × ((parts : List (List ℕ)) × (slice_split p xs ≡ part ∷ parts))
split_some p [] = ([], ([], refl))
split_some p (x ∷ xs) =
    elim (cases_Bool (p x)) [
      | inl stops ↦ ([], (slice_split p xs, slice_split-cons_yes p x xs stops))
      | inr goes ↦ (let later = split_some p xs in (x ∷ later.0, (later.1.0, slice_split-cons_no p x xs goes ∙ ap (onto_first x) later.1.1)))
    ]

-- the first part, after some that do not stop
split_front : (p : ℕ → Bool) (xs ys part : List ℕ) (parts : List (List ℕ)) → All (λ x. p x ≡ false) xs → slice_split p ys ≡ part ∷ parts → slice_split p (xs ++ ys) ≡ (xs ++ part) ∷ parts
split_front p [] ys part parts goes is = is
split_front p (x ∷ xs) ys part parts goes is =
    slice_split-cons_no p x (xs ++ ys) (All-head (λ y. p y ≡ false) x xs goes) ∙ ap (onto_first x) (split_front p xs ys part parts (All-tail (λ y. p y ≡ false) x xs goes) is)

-- digits are no spaces
pub digits_go : (xs : List ℕ) → AllDigits 10 xs → All (λ x. (x == 32) ≡ false) xs
digits_go [] digits = All-nil (λ x. (x == 32) ≡ false)
digits_go (c ∷ xs) digits =
    let range = digit_from_value c digits.0 in
    let other : c ≢ 32 = omega (arith, range.0, range.1) in
    All-cons (λ x. (x == 32) ≡ false) c xs (ne_eqb c 32 other) (digits_go xs digits.1)

all_but : (xs : List ℕ) (y : ℕ) (part : List ℕ) → is_ascii_digit y ≡ false → all_ascii_digits (xs ++ y ∷ part) ≡ false
all_but [] y part other = ap (λ b. b && all_ascii_digits part) other
all_but (x ∷ xs) y part other = ap (λ b. is_ascii_digit x && b) (all_but xs y part other) ∙ and_right (is_ascii_digit x) false refl

apart_at : (text : List ℕ) (n : ℕ) → n < length text → text ≡ take n text ++ get_or text n 0 ∷ drop (n + 1) text
apart_at text n lt = sym (take-append-drop n text) ∙ ap (λ t. take n text ++ t) (drop_more text n 0 lt)

-- digits that go on with neither a digit nor a space begin a word that writes no number
pub front_broken : (text : List ℕ) (n : ℕ) → n ≤ length text → AllDigits 10 (take n text) → (n < length text → is_ascii_digit (get_or text n 0) ≡ false) → false ≡ (length text == n || get_or text n 0 == 32) → StartsWithOther number_in text
front_broken text n within digits stops open' =
    let parts = or_parts (length text == n) (get_or text n 0 == 32) (sym open') in
    let before : length text ≢ n = eqb-false (length text) n parts.0 in
    let lt : n < length text = omega (arith, before) in
    let rest : List ℕ = drop (n + 1) text in
    let y : ℕ = get_or text n 0 in
    let later = split_some (λ b. b == 32) rest in
    let tail : words_of (y ∷ rest) ≡ (y ∷ later.0) ∷ later.1.0 = slice_split-cons_no (λ b. b == 32) y rest parts.1 ∙ ap (onto_first y) later.1.1 in (
      take n text ++ y ∷ later.0,
      (
        later.1.0,
        ap words_of (apart_at text n lt) ∙ split_front (λ b. b == 32) (take n text) (y ∷ rest) (y ∷ later.0) later.1.0 (digits_go (take n text) digits) tail,
        number_broken (take n text ++ y ∷ later.0) (all_but (take n text) y later.0 (stops lt)),
      ),
    )

pub after_end : (n : ℕ) (text : List ℕ) → length text ≤ n → words_after n text ≡ []
after_end n text past = ap (λ b. cond b (words_of (drop (n + 1) text)) []) (le-ltb n (length text) past)

pub after_space : (n : ℕ) (text : List ℕ) → n < length text → words_after n text ≡ words_of (drop (n + 1) text)
after_space n text lt = ap (λ b. cond b (words_of (drop (n + 1) text)) []) (lt-ltb n (length text) lt)

-- digits that end with their word are the first word
pub front_words : (text : List ℕ) (n : ℕ) → n ≤ length text → AllDigits 10 (take n text) → true ≡ (length text == n || get_or text n 0 == 32) → words_of text ≡ take n text ∷ words_after n text
front_words text n within digits ends =
    elim (cases_lt n (length text)) [
      | inl lt ↦
          (let differ : length text ≢ n = omega arith in
          let space : (get_or text n 0 == 32) ≡ true = elim (or_cases (length text == n) (get_or text n 0 == 32) (sym ends)) [
            | inl same ↦ absurd (differ (eqb-true (length text) n same))
            | inr is ↦ is
          ] in
          ap words_of (apart_at text n lt) ∙ slice_split_at (λ b. b == 32) (take n text) (get_or text n 0) (drop (n + 1) text) (digits_go (take n text) digits) space
          ∙ ap (λ ws. take n text ∷ ws) (sym (after_space n text lt)))
      | inr past ↦
          (let all : take n text ≡ text = take_all n text past in
          let P : List ℕ → Type 0 = λ xs. AllDigits 10 xs in
          slice_split_none (λ b. b == 32) text (digits_go text (subst P all digits)) ∙ ap (λ w. w ∷ []) (sym all) ∙ ap (λ ws. take n text ∷ ws) (sym (after_end n text past)))
    ]

pub front_other : (text : List ℕ) (n : ℕ) (word : List ℕ) → n ≤ length text → AllDigits 10 (take n text) → true ≡ (length text == n || get_or text n 0 == 32) → word ≡ take n text → None ≡ number_in word → StartsWithOther number_in text
front_other text n word within digits ends is none =
    (take n text, (words_after n text, front_words text n within digits ends, ap number_in (sym is) ∙ sym none))

pub front_is : (text : List ℕ) (n value : ℕ) (word : List ℕ) → n ≤ length text → AllDigits 10 (take n text) → true ≡ (length text == n || get_or text n 0 == 32) → word ≡ take n text → Some value ≡ number_in word → StartsWith number_in text value n
front_is text n value word within digits ends is some =
    record { within = within; words = front_words text n within digits ends; is = ap number_in (sym is) ∙ sym some }

-- a `-` in front
pub minus_text : (text : List ℕ) → false ≡ (length text == 0) → get_or text 0 0 ≡ 45 → text ≡ 45 ∷ drop 1 text
minus_text [] some is = absurd (false≢true some)
minus_text (c ∷ text) some is = ap (λ x. x ∷ text) is

pub no_minus : (text : List ℕ) → true ≡ (length text == 0) → get_or text 0 0 ≢ 45
no_minus [] none = λ is. absurd (omega arith)
no_minus (c ∷ text) none = λ is. let e : length (c ∷ text) ≡ 0 = eqb-true (length (c ∷ text)) 0 (sym none) in absurd (omega (arith, e))

less_suc : (m n : ℕ) → nat_lt (m + 1) (suc n) ≡ nat_lt m n
less_suc m n = grind (arith, nat_tests)

pub minus_is : (text rest : List ℕ) (v n : ℕ) → text ≡ 45 ∷ rest → StartsWith number_in rest v n → StartsWith place_in text (2 * v + 1) (n + 1)
minus_is text rest v n is starts =
    let P : List ℕ → Type 0 = λ t. StartsWith place_in t (2 * v + 1) (n + 1) in
    let next : n + 1 ≡ suc n = omega arith in
    let taken : take (n + 1) (45 ∷ rest) ≡ 45 ∷ take n rest = ap (λ k. take k (45 ∷ rest)) next in
    let dropped : n + 1 + 1 ≡ suc (n + 1) = omega arith in
    let after : words_after (n + 1) (45 ∷ rest) ≡ words_after n rest =
    ap (λ b. cond b (words_of (drop (n + 1 + 1) (45 ∷ rest))) []) (less_suc n (length rest)) ∙ ap (λ k. cond (nat_lt n (length rest)) (words_of (drop k (45 ∷ rest))) []) dropped in
    subst P (sym is) (record {
      within = omega (arith, starts.within);
      words = ap (onto_first 45) starts.words ∙ ap (λ w. w ∷ words_after n rest) (sym taken) ∙ ap (λ ws. take (n + 1) (45 ∷ rest) ∷ ws) (sym after);
      is = ap place_in taken ∙ ap (option_map (λ v. 2 * v + 1)) starts.is;
    })

pub minus_other : (text rest : List ℕ) → text ≡ 45 ∷ rest → StartsWithOther number_in rest → StartsWithOther place_in text
minus_other text rest is other =
    let P : List ℕ → Type 0 = λ t. StartsWithOther place_in t in
    subst P (sym is) (45 ∷ other.0, (other.1.0, ap (onto_first 45) other.1.1, ap (option_map (λ v. 2 * v + 1)) other.1.2))

-- no `-` in front
head_word : (text word : List ℕ) (c : ℕ) (words : List (List ℕ)) → words_of text ≡ (c ∷ word) ∷ words → get_or text 0 0 ≡ c
head_word [] word c words is = absurd cc
head_word (x ∷ text) word c words is =
    let later = split_some (λ b. b == 32) text in
    elim (cases_Bool (x == 32)) [
      | inl stops ↦ (let first : [] ∷ words_of text ≡ (c ∷ word) ∷ words = sym (slice_split-cons_yes (λ b. b == 32) x text stops) ∙ is in absurd cc)
      | inr goes ↦ (let first : (x ∷ later.0) ∷ later.1.0 ≡ (c ∷ word) ∷ words = sym (slice_split-cons_no (λ b. b == 32) x text goes ∙ ap (onto_first x) later.1.1) ∙ is in cc)
    ]

pub plain_place : (word : List ℕ) (c : ℕ) → c ≢ 45 → place_in (c ∷ word) ≡ option_map (λ v. 2 * v) (number_in (c ∷ word))
plain_place word c other = ap (λ b. cond b (option_map (λ v. 2 * v + 1) (number_in word)) (option_map (λ v. 2 * v) (number_in (c ∷ word)))) (ne_eqb c 45 other)

pub plain_is : (text : List ℕ) (v n : ℕ) → get_or text 0 0 ≢ 45 → StartsWith number_in text v n → StartsWith place_in text (2 * v) n
plain_is text v n other starts = record { within = starts.within; words = starts.words; is = at_word (take n text) starts.words starts.is }
  where
    at_word : (word : List ℕ) → words_of text ≡ word ∷ words_after n text → number_in word ≡ Some v → place_in word ≡ Some (2 * v)
    at_word [] words is = absurd cc
    at_word (c ∷ word) words is =
        let first : get_or text 0 0 ≡ c = head_word text word c (words_after n text) words in
        plain_place word c (λ e. other (first ∙ e)) ∙ ap (option_map (λ v. 2 * v)) is

pub plain_other : (text : List ℕ) → get_or text 0 0 ≢ 45 → StartsWithOther number_in text → StartsWithOther place_in text
plain_other text other starts = (starts.0, (starts.1.0, starts.1.1, at_word starts.0 starts.1.1 starts.1.2))
  where
    at_word : (word : List ℕ) → words_of text ≡ word ∷ starts.1.0 → number_in word ≡ None → place_in word ≡ None
    at_word [] words is = refl
    at_word (c ∷ word) words is =
        let first : get_or text 0 0 ≡ c = head_word text word c starts.1.0 words in
        plain_place word c (λ e. other (first ∙ e)) ∙ ap (option_map (λ v. 2 * v)) is
