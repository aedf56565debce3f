-- Texts in quotes, a run of bytes at a time.
use Rattle.std.proofs.Common.{◌≡◌, ◌≢◌, ℕ, zero, suc, ◌+◌, ◌-◌, ◌*◌, ◌<◌, ◌≤◌, true, false, List, [], ◌∷◌, ◌++◌, length, take, drop, get_or, refl, sym, ap, ◌∙◌, arith, append_assoc, append-nil, drop-cons, add-one, length-drop, subst, Option, Some, None, Ok, ◌^◌}
use Rattle.std.specs.Prelude.{option_map, ◌==◌, ◌||◌, nat_lt, slice_range}
use Rattle.std.proofs.lemmas.List.{take_more, drop-drop}
use Rattle.std.proofs.lemmas.Bool.Decides.{nat_tests}
use Rattle.std.specs.Str.{IsUtf8, IsCharBoundary}
use Rattle.std.proofs.lemmas.Str.{IsCharBoundary-from_drop, IsCharBoundary-after_ascii}
use Rattle.yaml_tokens.specs.Quotes.{Reads, after_front, after_character, single_from, double_from, in_text, in_escape, in_number, hex_value, hex_count, simple_escape, is_quote_first}
use Rattle.yaml_tokens.specs.Quoted.{ReadsText, EndsAscii, up_to_escape, digits_from}

pub after_front-after : (a b : List ℕ) (read : Reads) → after_front a (after_front b read) ≡ after_front (a ++ b) read
after_front-after a b None = refl
after_front-after a b (Some p) = ap (λ (bs : List ℕ). Some (bs, p.1)) (sym (append_assoc a b p.0))

pub after_front-none : (read : Reads) → after_front [] read ≡ read
after_front-none None = refl
after_front-none (Some p) = refl

first-and-rest : (bs : List ℕ) (at : ℕ) → at < length bs → drop at bs ≡ get_or bs at 0 ∷ drop (at + 1) bs
first-and-rest bs at h = drop-cons bs at 0 h ∙ ap (λ i. get_or bs at 0 ∷ drop i bs) (sym (add-one at))

-- ---- single quotes

single-more : (b : ℕ) (bs : List ℕ) → b ≢ 39 → single_from false (b ∷ bs) ≡ after_front (b ∷ []) (single_from false bs)
single-more b bs h = grind arith

pub single-turn : (bs : List ℕ) (at : ℕ) → at < length bs → get_or bs at 0 ≢ 39
    → after_front (take at bs) (single_from false (drop at bs)) ≡ after_front (take (at + 1) bs) (single_from false (drop (at + 1) bs))
single-turn bs at h k =
    let b = get_or bs at 0 in
    let rest = drop (at + 1) bs in
    ap (λ x. after_front (take at bs) (single_from false x)) (first-and-rest bs at h)
    ∙ ap (after_front (take at bs)) (single-more b rest k)
    ∙ after_front-after (take at bs) (b ∷ []) (single_from false rest)
    ∙ ap (λ x. after_front x (single_from false rest)) (sym (take_more bs at 0 h))

pub single-stop : (bs : List ℕ) (at : ℕ) → at < length bs → get_or bs at 0 ≡ 39
    → after_front (take at bs) (single_from false (drop at bs)) ≡ after_front (take at bs) (single_from true (drop (at + 1) bs))
single-stop bs at h k =
    ap (λ x. after_front (take at bs) (single_from false x)) (first-and-rest bs at h)
    ∙ ap (λ (b : ℕ). after_front (take at bs) (single_from false (b ∷ drop (at + 1) bs))) k

pub single-none : (bs : List ℕ) (front : List ℕ) → length bs ≡ 0 → after_front front (single_from false bs) ≡ None
single-none [] front h = refl
single-none (b ∷ bs) front h = absurd (omega arith)

single-last : (bs : List ℕ) → is_quote_first bs ≡ false → single_from true bs ≡ Some ([], bs)
single-last [] h = refl
single-last (b ∷ bs) h = rw h refl

single-again : (bs : List ℕ) → is_quote_first bs ≡ true → single_from true bs ≡ after_front (39 ∷ []) (single_from false (drop 1 bs))
single-again [] h = absurd (cc)
single-again (b ∷ bs) h = rw h refl

pub single-done : (front run left bs : List ℕ) → single_from false bs ≡ after_front run (single_from true left) → is_quote_first left ≡ false → after_front front (single_from false bs) ≡ Some (front ++ run, left)
single-done front run left bs e h =
    ap (after_front front) (e ∙ ap (after_front run) (single-last left h)) ∙ ap (λ (r : List ℕ). Some (front ++ r, left)) (append-nil run)

pub single-next : (front run left bs : List ℕ) → single_from false bs ≡ after_front run (single_from true left) → is_quote_first left ≡ true
    → after_front front (single_from false bs) ≡ after_front ((front ++ run) ++ 39 ∷ []) (single_from false (drop 1 left))
single-next front run left bs e h =
    ap (after_front front) (e ∙ ap (after_front run) (single-again left h))
    ∙ after_front-after front run (after_front (39 ∷ []) (single_from false (drop 1 left)))
    ∙ after_front-after (front ++ run) (39 ∷ []) (single_from false (drop 1 left))

pub quote-byte : (bs : List ℕ) → is_quote_first bs ≡ true → (0 < length bs) × (get_or bs 0 0 ≡ 39)
quote-byte [] h = absurd (cc)
quote-byte (b ∷ bs) h = (omega arith, grind (arith, nat_tests))

-- ---- what is left of a text

-- the bytes taken so far end where what is left begins
pub taken : (s left : List ℕ) → drop (length s - length left) s ≡ left → IsUtf8 left → length left ≤ length s → (length s - length left ≤ length s) × IsCharBoundary s (length s - length left)
taken s left e u h = (omega arith, IsCharBoundary-from_drop s (length s - length left) (omega arith) (subst IsUtf8 (sym e) u))

pub suffix-drop : (s left : List ℕ) (k : ℕ) → drop (length s - length left) s ≡ left → k ≤ length left → length left ≤ length s → drop (length s - length (drop k left)) s ≡ drop k left
suffix-drop s left k e h w =
    let same : length s - length (drop k left) ≡ (length s - length left) + k = omega (arith, length-drop k left) in
    ap (λ n. drop n s) same ∙ sym (drop-drop k (length s - length left) s) ∙ ap (drop k) e

-- ---- double quotes

double-more : (b : ℕ) (bs : List ℕ) → (b == 34 || b == 92) ≡ false → double_from in_text (b ∷ bs) ≡ after_front (b ∷ []) (double_from in_text bs)
double-more b bs h =
    let one : (b == 34) ≡ false = grind (arith, nat_tests) in
    let two : (b == 92) ≡ false = grind (arith, nat_tests) in
    rw (one, two) refl

pub double-turn : (bs : List ℕ) (at : ℕ) → at < length bs → (get_or bs at 0 == 34 || get_or bs at 0 == 92) ≡ false
    → after_front (take at bs) (double_from in_text (drop at bs)) ≡ after_front (take (at + 1) bs) (double_from in_text (drop (at + 1) bs))
double-turn bs at h k =
    let b = get_or bs at 0 in
    let rest = drop (at + 1) bs in
    ap (λ x. after_front (take at bs) (double_from in_text x)) (first-and-rest bs at h)
    ∙ ap (after_front (take at bs)) (double-more b rest k)
    ∙ after_front-after (take at bs) (b ∷ []) (double_from in_text rest)
    ∙ ap (λ x. after_front x (double_from in_text rest)) (sym (take_more bs at 0 h))

pub double-none : (bs : List ℕ) (front : List ℕ) → length bs ≡ 0 → after_front front (double_from in_text bs) ≡ None
double-none [] front h = refl
double-none (b ∷ bs) front h = absurd (omega arith)

pub mark-ascii : (b : ℕ) → (b == 34 || b == 92) ≡ true → b < 128
mark-ascii b h = grind (arith, nat_tests)

pub double-done : (front bs : List ℕ) (n : ℕ) → double_from in_text bs ≡ after_front (take n bs) (double_from in_text (drop n bs)) → n < length bs → get_or bs n 0 ≡ 34
    → after_front front (double_from in_text bs) ≡ Some (front ++ take n bs, drop (n + 1) bs)
double-done front bs n e h k =
    ap (after_front front) (e ∙ ap (λ x. after_front (take n bs) (double_from in_text x)) (first-and-rest bs n h ∙ ap (λ (b : ℕ). b ∷ drop (n + 1) bs) k))
    ∙ ap (λ (r : List ℕ). Some (front ++ r, drop (n + 1) bs)) (append-nil (take n bs))

pub double-escape : (front bs : List ℕ) (n : ℕ) → double_from in_text bs ≡ after_front (take n bs) (double_from in_text (drop n bs)) → n < length bs → (get_or bs n 0 == 34 || get_or bs n 0 == 92) ≡ true → get_or bs n 0 ≢ 34
    → after_front front (double_from in_text bs) ≡ after_front (front ++ take n bs) (double_from in_escape (drop (n + 1) bs))
double-escape front bs n e h m k =
    let back : get_or bs n 0 ≡ 92 = grind (arith, nat_tests) in
    ap (after_front front) (e ∙ ap (λ x. after_front (take n bs) (double_from in_text x)) (first-and-rest bs n h ∙ ap (λ (b : ℕ). b ∷ drop (n + 1) bs) back))
    ∙ after_front-after front (take n bs) (double_from in_escape (drop (n + 1) bs))

-- ---- escapes

pub escape-simple : (s : List ℕ) → 0 < length s → hex_count (get_or s 0 0) ≡ 0 → double_from in_escape s ≡ after_character (simple_escape (get_or s 0 0)) (double_from in_text (drop 1 s))
escape-simple [] h e = absurd (omega arith)
escape-simple (b ∷ bs) h e = rw e refl

pub escape-hex : (s : List ℕ) (n : ℕ) → 0 < length s → hex_count (get_or s 0 0) ≡ suc n → double_from in_escape s ≡ double_from (in_number (suc n) 0) (drop 1 s)
escape-hex [] n h e = absurd (omega arith)
escape-hex (b ∷ bs) n h e = let some : nat_lt 0 (suc n) ≡ true = grind (arith, nat_tests) in rw (e, some) refl

pub character-up : (s : List ℕ) (n : ℕ) (o : Option ℕ) → after_character o (double_from in_text (drop n s)) ≡ up_to_escape s (option_map (λ c. (c, n)) o)
character-up s n None = refl
character-up s n (Some c) = refl

-- ---- hexadecimal digits

hex-first : (m value h b : ℕ) (bs : List ℕ) → hex_value b ≡ Some h → digits_from (suc m) value (b ∷ bs) ≡ digits_from m (value * 16 + h) bs
hex-first zero value h b bs e = rw e refl
hex-first (suc m) value h b bs e =
    let more : (suc (suc m) == 0) ≡ false = grind (arith, nat_tests) in
    let not_last : (suc (suc m) == 1) ≡ false = grind (arith, nat_tests) in
    let less : suc (suc m) - 1 ≡ suc m = omega arith in
    let some : (suc m == 0) ≡ false = grind (arith, nat_tests) in
    rw (more, e, not_last, less, some) refl

pub hex-turn : (bs : List ℕ) (left m value h at : ℕ) → at < length bs → left ≡ suc m → hex_value (get_or bs at 0) ≡ Some h
    → digits_from left value (drop at bs) ≡ digits_from m (value * 16 + h) (drop (at + 1) bs)
hex-turn bs left m value h at l e v =
    (λ i. digits_from (e i) value (first-and-rest bs at l i)) ∙ hex-first m value h (get_or bs at 0) (drop (at + 1) bs) v

hex-bad-first : (m value b : ℕ) (bs : List ℕ) → hex_value b ≡ None → digits_from (suc m) value (b ∷ bs) ≡ None
hex-bad-first m value b bs e = let some : (suc m == 0) ≡ false = grind (arith, nat_tests) in rw (some, e) refl

pub hex-bad : (bs : List ℕ) (left m value at : ℕ) → at < length bs → left ≡ suc m → hex_value (get_or bs at 0) ≡ None → digits_from left value (drop at bs) ≡ None
hex-bad bs left m value at l e v = (λ i. digits_from (e i) value (first-and-rest bs at l i)) ∙ hex-bad-first m value (get_or bs at 0) (drop (at + 1) bs) v

hex-empty : (m value : ℕ) → digits_from (suc m) value [] ≡ None
hex-empty m value = let some : (suc m == 0) ≡ false = grind (arith, nat_tests) in rw some refl

pub hex-short : (bs : List ℕ) (left m value : ℕ) → length bs ≡ 0 → left ≡ suc m → digits_from left value bs ≡ None
hex-short [] left m value h e = ap (λ n. digits_from n value []) e ∙ hex-empty m value
hex-short (b ∷ bs) left m value h e = absurd (omega arith)

-- eight digits fit 32 bits
pub hex-fits : (at value digit : ℕ) → at < 8 → value < 16 ^ at → digit < 16 → value * 16 + digit < 4294967296
hex-fits zero v d a s h = omega arith
hex-fits (suc zero) v d a s h = omega arith
hex-fits (suc (suc zero)) v d a s h = omega arith
hex-fits (suc (suc (suc zero))) v d a s h = omega arith
hex-fits (suc (suc (suc (suc zero)))) v d a s h = omega arith
hex-fits (suc (suc (suc (suc (suc zero))))) v d a s h = omega arith
hex-fits (suc (suc (suc (suc (suc (suc zero)))))) v d a s h = omega arith
hex-fits (suc (suc (suc (suc (suc (suc (suc zero))))))) v d a s h = omega arith
hex-fits (suc (suc (suc (suc (suc (suc (suc (suc n)))))))) v d a s h = absurd (omega arith)

-- ---- a turn of the readers of quoted texts

abbrev pub Suffix : List ℕ → List ℕ → Type 0
Suffix s left = drop (length s - length left) s ≡ left

pub reads-text : (s left t : List ℕ) (meant : Reads) → Suffix s left → IsUtf8 left → length left ≤ length s → meant ≡ Some (t, left) → ReadsText s (Ok (t, length s - length left)) meant
reads-text s left t meant e u h m =
    let k = taken s left e u h in (m ∙ ap (λ (x : List ℕ). Some (t, x)) (sym e), k.0, k.1)

pub suffix-cut : (s left next : List ℕ) (k : ℕ) → next ≡ drop k left → Suffix s left → k ≤ length left → length left ≤ length s → Suffix s next
suffix-cut s left next k e f h w = subst (Suffix s) (sym e) (suffix-drop s left k f h w)

pub range-take : (s : List ℕ) (n : ℕ) → slice_range s 0 n ≡ take n s
range-take s n = let same : n - 0 ≡ n = omega arith in ap (λ k. take k s) same

-- a character begins behind an ASCII one
pub ends-boundary : (s : List ℕ) (n : ℕ) → IsUtf8 s → EndsAscii s n → IsCharBoundary s n
ends-boundary s n u h =
    let same : (n - 1) + 1 ≡ n = omega (arith, h.0) in
    subst (IsCharBoundary s) same (IsCharBoundary-after_ascii s (n - 1) u (omega (arith, h.0, h.1)) h.2)

-- what a text in quotes reads, from the opening quote on
pub behind-quote : (s left t : List ℕ) (n : ℕ) (read : List ℕ → Reads) → left ≡ drop 1 s → read left ≡ Some (t, drop n left) → read (drop 1 s) ≡ Some (t, drop (n + 1) s)
behind-quote s left t n read e h =
    let same : 1 + n ≡ n + 1 = omega arith in
    ap read (sym e) ∙ h ∙ ap (λ (x : List ℕ). Some (t, drop n x)) e ∙ ap (λ (x : List ℕ). Some (t, x)) (drop-drop n 1 s ∙ ap (λ k. drop k s) same)
