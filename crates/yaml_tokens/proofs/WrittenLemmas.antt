-- Texts in double quotes, written and read back.
use Rattle.std.proofs.Common.{◌≡◌, ℕ, ◌+◌, ◌-◌, ◌*◌, ◌/◌, ◌%◌, ◌<◌, ◌≤◌, Bool, true, false, List, [], ◌∷◌, ◌++◌, length, take, drop, get_or, refl, sym, ap, ◌∙◌, arith, append_assoc, append-nil, subst, Some}
use Rattle.std.specs.Prelude.{◌==◌, ◌||◌, nat_lt, Result, IsErr}
use Rattle.std.specs.List.{flat_map, between}
use Rattle.std.proofs.lemmas.Bool.Decides.{nat_tests}
use Rattle.std.proofs.lemmas.Str.{encode_ascii}
use Rattle.std.proofs.Math.Nat.{div-add-mod}
use Rattle.std.proofs.lemmas.Nat.{div_below, mod_below}
use Rattle.std.proofs.lemmas.List.{take_more, take_all, take-append-drop}
use Rattle.std.proofs.lemmas.List.Concat.{flat_map-append}
use Rattle.std.proofs.lemmas.List.Edits.{between_more}
use Rattle.lists_core.specs.Puts.{Puts}
use Rattle.lists_core.proofs.PutsFacts.{puts-then, puts-cut, puts-failed}
use Rattle.yaml_tokens.specs.Quotes.{Reads, after_front, after_character, character, double_from, in_text, hex_value}
use Rattle.yaml_tokens.specs.Written.{is_mark, is_control, hex_digit, hex_escape, spelled}

-- ---- read back

digit-value : (n : ℕ) → n < 16 → hex_value (hex_digit n) ≡ Some n
digit-value n h = grind (arith, nat_tests)

-- an ASCII character, read
ascii-character : (b : ℕ) (read : Reads) → b < 128 → after_character (character b) read ≡ after_front (b ∷ []) read
ascii-character b read h =
    let low : nat_lt b 55296 ≡ true = grind (arith, nat_tests) in
    rw low (ap (λ (front : List ℕ). after_front front read) (encode_ascii b h))

-- a double quote or a backslash behind a backslash reads as itself
abbrev MarkRead : List ℕ → ℕ → Type 0
MarkRead more b = double_from in_text (92 ∷ b ∷ more) ≡ after_front (b ∷ []) (double_from in_text more)

quote-read : (more : List ℕ) → MarkRead more 34
quote-read more = ascii-character 34 (double_from in_text more) (omega arith)

backslash-read : (more : List ℕ) → MarkRead more 92
backslash-read more = ascii-character 92 (double_from in_text more) (omega arith)

mark-read : (b : ℕ) (more : List ℕ) → is_mark b ≡ true → MarkRead more b
mark-read b more h = by_test (b == 34) refl
  where
    by_test : (t : Bool) → (b == 34) ≡ t → MarkRead more b
    by_test true e = let same : 34 ≡ b = grind (arith, nat_tests) in subst (MarkRead more) same (quote-read more)
    by_test false e = let same : 92 ≡ b = grind (arith, nat_tests) in subst (MarkRead more) same (backslash-read more)

number-read : (high low a b : ℕ) (more : List ℕ) → hex_value a ≡ Some high → hex_value b ≡ Some low
    → double_from in_text (92 ∷ 120 ∷ a ∷ b ∷ more) ≡ after_character (character ((0 * 16 + high) * 16 + low)) (double_from in_text more)
number-read high low a b more ea eb = rw (ea, eb) refl

hex-read : (b : ℕ) (more : List ℕ) → b < 128 → double_from in_text (hex_escape b ++ more) ≡ after_front (b ∷ []) (double_from in_text more)
hex-read b more h =
    let whole : (0 * 16 + b / 16) * 16 + b % 16 ≡ b = omega (arith, div-add-mod b 16) in
    let high : hex_value (hex_digit (b / 16)) ≡ Some (b / 16) = digit-value (b / 16) (div_below b 16 16 (omega arith) (omega arith)) in
    let low : hex_value (hex_digit (b % 16)) ≡ Some (b % 16) = digit-value (b % 16) (mod_below b 16 (omega arith)) in
    number-read (b / 16) (b % 16) (hex_digit (b / 16)) (hex_digit (b % 16)) more high low
    ∙ ap (λ (c : ℕ). after_character (character c) (double_from in_text more)) whole
    ∙ ascii-character b (double_from in_text more) h

bare-read : (b : ℕ) (more : List ℕ) → is_mark b ≡ false → double_from in_text (b ∷ more) ≡ after_front (b ∷ []) (double_from in_text more)
bare-read b more h =
    let quote : (b == 34) ≡ false = grind (arith, nat_tests) in
    let back : (b == 92) ≡ false = grind (arith, nat_tests) in
    rw (quote, back) refl

spelled-read : (b : ℕ) (more : List ℕ) → double_from in_text (spelled b ++ more) ≡ after_front (b ∷ []) (double_from in_text more)
spelled-read b more = by_tests (is_mark b) (is_control b) refl refl
  where
    by_tests : (mark control : Bool) → is_mark b ≡ mark → is_control b ≡ control → double_from in_text (spelled b ++ more) ≡ after_front (b ∷ []) (double_from in_text more)
    by_tests true control em ec = rw em (mark-read b more em)
    by_tests false true em ec = let ascii : b < 128 = grind (arith, nat_tests) in rw (em, ec) (hex-read b more ascii)
    by_tests false false em ec = rw (em, ec) (bare-read b more em)

pub text-read : (text rest : List ℕ) → double_from in_text ((flat_map spelled text ++ 34 ∷ []) ++ rest) ≡ Some (text, rest)
text-read [] rest = refl
text-read (b ∷ bs) rest =
    let behind = flat_map spelled bs ++ 34 ∷ [] in
    ap (λ (s : List ℕ). double_from in_text s) (ap (λ (s : List ℕ). s ++ rest) (append_assoc (spelled b) (flat_map spelled bs) (34 ∷ [])) ∙ append_assoc (spelled b) behind rest)
    ∙ spelled-read b (behind ++ rest) ∙ ap (after_front (b ∷ [])) (text-read bs rest)

-- ---- written run by run

spelled-bare : (b : ℕ) → (is_mark b || is_control b) ≡ false → spelled b ≡ b ∷ []
spelled-bare b h =
    let mark : is_mark b ≡ false = grind (arith, nat_tests) in
    let control : is_control b ≡ false = grind (arith, nat_tests) in
    rw (mark, control) refl

spelled-more : (bs : List ℕ) (at : ℕ) → at < length bs → flat_map spelled (take (at + 1) bs) ≡ flat_map spelled (take at bs) ++ spelled (get_or bs at 0)
spelled-more bs at h =
    ap (flat_map spelled) (take_more bs at 0 h) ∙ flat_map-append spelled (take at bs) (get_or bs at 0 ∷ [])
    ∙ ap (λ (s : List ℕ). flat_map spelled (take at bs) ++ s) (append-nil (spelled (get_or bs at 0)))

-- the bytes from one place up to another stand for themselves
abbrev pub IsRun : List ℕ → ℕ → ℕ → Type 0
IsRun bs done at = flat_map spelled (take at bs) ≡ flat_map spelled (take done bs) ++ between done at bs

pub run-none : (bs : List ℕ) (at : ℕ) → IsRun bs at at
run-none bs at = let none : at - at ≡ 0 = omega arith in rw none (sym (append-nil (flat_map spelled (take at bs))))

pub run-more : (bs : List ℕ) (done at : ℕ) → done ≤ at → at < length bs → (is_mark (get_or bs at 0) || is_control (get_or bs at 0)) ≡ false → IsRun bs done at → IsRun bs done (at + 1)
run-more bs done at order within bare run =
    spelled-more bs at within
    ∙ (λ i. run i ++ spelled-bare (get_or bs at 0) bare i)
    ∙ append_assoc (flat_map spelled (take done bs)) (between done at bs) (get_or bs at 0 ∷ [])
    ∙ ap (λ (s : List ℕ). flat_map spelled (take done bs) ++ s) (sym (between_more bs done at 0 order within))

-- a run and the escape behind it, after what was put
run-behind : (bs : List ℕ) (done at : ℕ) → at < length bs → IsRun bs done at → flat_map spelled (take done bs) ++ (between done at bs ++ spelled (get_or bs at 0)) ≡ flat_map spelled (take (at + 1) bs)
run-behind bs done at within run =
    let behind = spelled (get_or bs at 0) in
    sym (append_assoc (flat_map spelled (take done bs)) (between done at bs) behind) ∙ ap (λ (s : List ℕ). s ++ behind) (sym run) ∙ sym (spelled-more bs at within)

-- they were put
pub run-put : (bs : List ℕ) (done at : ℕ) → at < length bs → IsRun bs done at → (old cur new : List ℕ) → cur ≡ old ++ flat_map spelled (take done bs)
    → new ≡ cur ++ (between done at bs ++ spelled (get_or bs at 0)) → new ≡ old ++ flat_map spelled (take (at + 1) bs)
run-put bs done at within run old cur new so_far more =
    let piece = between done at bs ++ spelled (get_or bs at 0) in
    more ∙ ap (λ (s : List ℕ). s ++ piece) so_far ∙ append_assoc old (flat_map spelled (take done bs)) piece ∙ ap (λ (s : List ℕ). old ++ s) (run-behind bs done at within run)

-- what was put, a run with the escape behind it, and the rest
parts : (bs : List ℕ) (done at : ℕ) → at < length bs → IsRun bs done at
    → flat_map spelled (take done bs) ++ ((between done at bs ++ spelled (get_or bs at 0)) ++ flat_map spelled (drop (at + 1) bs)) ≡ flat_map spelled bs
parts bs done at within run =
    let rest = flat_map spelled (drop (at + 1) bs) in
    sym (append_assoc (flat_map spelled (take done bs)) (between done at bs ++ spelled (get_or bs at 0)) rest)
    ∙ ap (λ (s : List ℕ). s ++ rest) (run-behind bs done at within run)
    ∙ sym (flat_map-append spelled (take (at + 1) bs) (drop (at + 1) bs))
    ∙ ap (flat_map spelled) (take-append-drop (at + 1) bs)

module _ {T E : Type 0} (r : Result T E) (bs : List ℕ) (done : ℕ) (old cur new : List ℕ) (so_far : cur ≡ old ++ flat_map spelled (take done bs)) where
  -- a run or the escape behind it was cut short
  pub run-cut : (at : ℕ) → at < length bs → IsRun bs done at → IsErr r → (k : ℕ) × (new ≡ cur ++ take k (between done at bs ++ spelled (get_or bs at 0))) → Puts old new r (flat_map spelled bs)
  run-cut at within run failed part =
      let piece = between done at bs ++ spelled (get_or bs at 0) in
      let rest = flat_map spelled (drop (at + 1) bs) in
      subst (Puts old new r) (parts bs done at within run)
      (puts-then old cur (flat_map spelled (take done bs)) so_far new (piece ++ rest) r (puts-failed cur new (piece ++ rest) r failed (puts-cut cur new piece rest part)))

  -- the last run was put, or cut short
  pub run-last : IsRun bs done (length bs) → Puts cur new r (between done (length bs) bs) → Puts old new r (flat_map spelled bs)
  run-last run last =
      subst (Puts old new r) (sym run ∙ ap (flat_map spelled) (take_all (length bs) bs (omega arith))) (puts-then old cur (flat_map spelled (take done bs)) so_far new (between done (length bs) bs) r last)
