-- A text in double quotes has one line with one token, and is the tree of one node.
use Rattle.std.proofs.Common.{◌≡◌, ◌≢◌, ℕ, zero, suc, ◌-◌, ◌/◌, ◌%◌, ◌<◌, ◌≤◌, Bool, true, false, List, [], ◌∷◌, ◌++◌, length, refl, sym, ap, ◌∙◌, arith, append-nil, subst, get_or, Some, Ok, inl, inr}
use Rattle.std.specs.Prelude.{◌==◌, nat_lt, option_and_then, option_map}
use Rattle.std.specs.List.{All, flat_map, list_any, slice_split}
use Rattle.std.specs.Str.Lines.{lines, lines_of_parts}
use Rattle.std.proofs.lemmas.Bool.Decides.{nat_tests}
use Rattle.std.proofs.lemmas.List.Elements.{All-nil, All-cons, All-append, All-weaker, All-head, All-tail, All-from_get_or}
use Rattle.std.proofs.lemmas.List.Folds.{list_any_none}
use Rattle.std.proofs.lemmas.List.Splits.{slice_split_none}
use Rattle.std.proofs.lemmas.Nat.{div_below, mod_below}
use Rattle.std.proofs.lemmas.List.Concat.{flat_map-append}
use Rattle.std.specs.Char.{IsScalar}
use Rattle.std.specs.Str.{IsUtf8}
use Rattle.std.proofs.lemmas.Str.{IsUtf8-append, IsUtf8-nil, IsUtf8-from_ascii, IsUtf8-encode, is_utf8-from_IsUtf8, encode_ascii, inside_one}
use Rattle.std.proofs.lemmas.Str.Ascii.{IsAscii-from_all, IsAscii-cons, IsAscii-nil}
use Rattle.std.proofs.lemmas.Bool.{and_parts, cases_lt}
use lib.Utf8.{encode, encodes, scalar, scalars}
use Rattle.yaml_core.specs.declared.node.Node.TheVariants as node
use Rattle.yaml_tokens.specs.declared.token.Token.TheVariants.{Quoted}
use Rattle.yaml_tokens.specs.declared.token.Placed.{Placed}
use Rattle.yaml_tokens.specs.declared.token.Before.{Before}
use Rattle.yaml_tokens.specs.declared.token.Before.TheVariants as before
use Rattle.yaml_core.specs.Measured.{leaf}
use Rattle.yaml_tokens.specs.Quotes.{double_from, in_text}
use Rattle.yaml_tokens.specs.Tokens.{Line, is_refused, kept, has_mark, tokens_from, line_tokens, lines_tokens, text_tokens}
use Rattle.yaml_core.specs.Tree.{tree, text_tree, block, inline, flow_items}
use Rattle.yaml_core.specs.Read.{reading, within_limit}
use Rattle.yaml_tokens.specs.Written.{is_mark, is_control, hex_digit, hex_escape, spelled, quoted_text}
use Rattle.yaml_core.proofs.MeasureLemmas.{count-Quoted}
use Rattle.yaml_tokens.proofs.WrittenLemmas.{text-read}

-- ---- no control character

-- no control character of ASCII
abbrev IsVisible : ℕ → Type 0
IsVisible b = (32 ≤ b) × (b ≢ 127)

visible-digit : (n : ℕ) → n < 16 → IsVisible (hex_digit n)
visible-digit n h = (grind (arith, nat_tests), grind (arith, nat_tests))

-- what holds of each byte that stands for a byte
module _ (P : ℕ → Type 0) (b : ℕ) (backslash : P 92) (ex : P 120) (digit : (n : ℕ) → n < 16 → P (hex_digit n)) (itself : is_control b ≡ false → P b) where
  hex-each : b < 128 → All P (hex_escape b)
  hex-each ascii =
      let high = hex_digit (b / 16) in
      let low = hex_digit (b % 16) in
      let digits : All P (high ∷ low ∷ []) = All-cons P high (low ∷ []) (digit (b / 16) (div_below b 16 16 (omega arith) (omega arith))) (All-cons P low [] (digit (b % 16) (mod_below b 16 (omega arith))) (All-nil P)) in
      All-cons P 92 (120 ∷ high ∷ low ∷ []) backslash (All-cons P 120 (high ∷ low ∷ []) ex digits)

  spelled-each : All P (spelled b)
  spelled-each = by_tests (is_mark b) (is_control b) refl refl
    where
      by_tests : (mark control : Bool) → is_mark b ≡ mark → is_control b ≡ control → All P (spelled b)
      by_tests true control em ec =
          let none : is_control b ≡ false = grind (arith, nat_tests) in
          rw em (All-cons P 92 (b ∷ []) backslash (All-cons P b [] (itself none) (All-nil P)))
      by_tests false true em ec = let ascii : b < 128 = grind (arith, nat_tests) in rw (em, ec) (hex-each ascii)
      by_tests false false em ec = rw (em, ec) (All-cons P b [] (itself ec) (All-nil P))

spelled-visible : (b : ℕ) → All IsVisible (spelled b)
spelled-visible b = spelled-each IsVisible b (omega arith, omega arith) (omega arith, omega arith) visible-digit (λ none. (grind (arith, nat_tests), grind (arith, nat_tests)))

inner-visible : (text : List ℕ) → All IsVisible (flat_map spelled text)
inner-visible [] = All-nil IsVisible
inner-visible (b ∷ bs) = All-append IsVisible (spelled b) (flat_map spelled bs) (spelled-visible b) (inner-visible bs)

quoted-visible : (text : List ℕ) → All IsVisible (quoted_text text)
quoted-visible text =
    let quote : IsVisible 34 = (omega arith, omega arith) in
    All-cons IsVisible 34 (flat_map spelled text ++ 34 ∷ []) quote (All-append IsVisible (flat_map spelled text) (34 ∷ []) (inner-visible text) (All-cons IsVisible 34 [] quote (All-nil IsVisible)))

none-refused : (bs : List ℕ) → All IsVisible bs → list_any is_refused bs ≡ false
none-refused bs h = list_any_none is_refused bs (All-weaker IsVisible (λ b. is_refused b ≡ false) (λ b v. allowed b v) bs h)
  where
    allowed : (b : ℕ) → IsVisible b → is_refused b ≡ false
    allowed b v =
        let low : nat_lt b 32 ≡ false = grind (arith, nat_tests) in
        let high : (b == 127) ≡ false = grind (arith, nat_tests) in
        rw (low, high) refl

-- ---- one line

one-part : (b : ℕ) (bs : List ℕ) → All IsVisible (b ∷ bs) → lines (b ∷ bs) ≡ (b ∷ bs) ∷ []
one-part b bs h =
    let parts : slice_split (λ x. x == 10) (b ∷ bs) ≡ (b ∷ bs) ∷ [] = slice_split_none (λ x. x == 10) (b ∷ bs) (All-weaker IsVisible (λ x. (x == 10) ≡ false) (λ x v. other x v) (b ∷ bs) h) in
    let some : (length (b ∷ bs) == 0) ≡ false = grind (arith, nat_tests) in
    ap lines_of_parts parts ∙ rw some refl
  where
    other : (x : ℕ) → IsVisible x → (x == 10) ≡ false
    other x v = grind (arith, nat_tests)

quote-no-mark : (bs : List ℕ) → has_mark (34 ∷ bs) ≡ false
quote-no-mark [] = refl
quote-no-mark (b ∷ []) = refl
quote-no-mark (b ∷ c ∷ cs) = refl

quote-kept : (bs : List ℕ) → kept true (34 ∷ bs) ≡ Some true
quote-kept [] = refl
quote-kept (b ∷ []) = refl
quote-kept (b ∷ c ∷ cs) = refl

-- ---- one token

line-over : (n width depth : ℕ) (spaced : Bool) (was : Before) → tokens_from n width spaced depth was [] ≡ Some ([], depth)
unfolding tokens_from
line-over zero width depth spaced was = refl
line-over (suc n) width depth spaced was = refl

abbrev one : ℕ → List ℕ → Line
one column text = record { column = column; token = Quoted text } ∷ []

-- the text behind an opening quote ends with the line
one-token : (n width : ℕ) (bs text : List ℕ) → double_from in_text bs ≡ Some (text, []) → (column : ℕ) × (tokens_from (suc n) width true 0 before.Nothing (34 ∷ bs) ≡ Some (one column text, 0))
unfolding tokens_from
one-token n width bs text read = (width - length (34 ∷ bs), rw (read, line-over n width 0 false before.Scalar) refl)

quoted-token : (bs text : List ℕ) → double_from in_text bs ≡ Some (text, []) → All IsVisible (34 ∷ bs) → (column : ℕ) × (line_tokens 0 (34 ∷ bs) ≡ Some (one column text, 0))
quoted-token bs text read h =
    let width = length (34 ∷ bs) in
    let counted : width ≡ suc (length bs) = omega arith in
    let (column, token) = one-token (length bs) width bs text read in
    (column, rw (none-refused (34 ∷ bs) h) (ap (λ n. tokens_from n width true 0 before.Nothing (34 ∷ bs)) counted ∙ token))

-- ---- the text

line-kept : (bs : List ℕ) (t : Placed) → line_tokens 0 (34 ∷ bs) ≡ Some (t ∷ [], 0) → lines_tokens true 0 ((34 ∷ bs) ∷ []) ≡ Some ((t ∷ []) ∷ [])
line-kept bs t read = rw (read, quote-kept bs) refl

quoted-tokens : (text : List ℕ) → (column : ℕ) × (text_tokens (quoted_text text) ≡ Some (one column text ∷ []))
quoted-tokens text =
    let behind = flat_map spelled text ++ 34 ∷ [] in
    let visible = quoted-visible text in
    let read : double_from in_text behind ≡ Some (text, []) = ap (double_from in_text) (sym (append-nil behind)) ∙ text-read text [] in
    let (column, token) = quoted-token behind text read visible in
    (column, rw (quote-no-mark behind, one-part 34 behind visible) (line-kept behind (record { column = column; token = Quoted text }) token))

one-tree : (column : ℕ) (text : List ℕ) → tree (one column text ∷ []) ≡ Some (leaf (node.Quoted text))
unfolding block inline flow_items
one-tree column text = refl

pub quoted-tree : (text : List ℕ) → text_tree (quoted_text text) ≡ Some (node.Quoted text)
quoted-tree text = let (column, tokens) = quoted-tokens text in ap (λ read. option_map (λ m. m.node) (option_and_then tree read)) tokens ∙ ap (option_map (λ m. m.node)) (one-tree column text)

-- ---- its bytes

-- the bytes of a character past U+007F stand for themselves
past-ascii : (bs : List ℕ) → All (λ b. 128 ≤ b) bs → flat_map spelled bs ≡ bs
past-ascii [] h = refl
past-ascii (b ∷ bs) h =
    let far : 128 ≤ b = All-head (λ x. 128 ≤ x) b bs h in
    let mark : is_mark b ≡ false = grind (arith, nat_tests) in
    let control : is_control b ≡ false = grind (arith, nat_tests) in
    rw (mark, control) (ap (λ (s : List ℕ). b ∷ s) (past-ascii bs (All-tail (λ x. 128 ≤ x) b bs h)))

far-bytes : (c : ℕ) → 128 ≤ c → All (λ b. 128 ≤ b) (encode c)
far-bytes c h = All-from_get_or (λ b. 128 ≤ b) (encode c) 0 (λ k within. elim (cases_lt (get_or (encode c) k 0) 128) [
  | inl low ↦ (let same : c ≡ get_or (encode c) k 0 = inside_one c [] (encode c) k (sym (append-nil (encode c))) within low in absurd (omega arith))
  | inr far ↦ far
])

spelled-utf8 : (b : ℕ) → b < 128 → IsUtf8 (spelled b)
spelled-utf8 b h = IsUtf8-from_ascii (spelled b) (IsAscii-from_all (spelled b) (spelled-each (λ x. x < 128) b (omega arith) (omega arith) (λ n low. grind (arith, nat_tests)) (λ none. h)))

character-utf8 : (c : ℕ) → IsScalar c → IsUtf8 (flat_map spelled (encode c))
character-utf8 c h = by_test (nat_lt c 128) refl
  where
    by_test : (t : Bool) → nat_lt c 128 ≡ t → IsUtf8 (flat_map spelled (encode c))
    by_test true e =
        let low : c < 128 = grind (arith, nat_tests) in
        subst IsUtf8 (sym (ap (flat_map spelled) (encode_ascii c low) ∙ append-nil (spelled c))) (spelled-utf8 c low)
    by_test false e =
        let far : 128 ≤ c = grind (arith, nat_tests) in
        subst IsUtf8 (sym (past-ascii (encode c) (far-bytes c far))) (IsUtf8-encode c h)

characters-utf8 : (cs : List ℕ) → scalars cs ≡ true → IsUtf8 (flat_map spelled (encodes cs))
characters-utf8 [] h = IsUtf8-nil
characters-utf8 (c ∷ cs) h =
    let (first, others) = and_parts (scalar c) (scalars cs) h in
    subst IsUtf8 (sym (flat_map-append spelled (encode c) (encodes cs)))
    (IsUtf8-append (flat_map spelled (encode c)) (flat_map spelled (encodes cs)) (character-utf8 c first) (characters-utf8 cs others))

quoted-utf8 : (text : List ℕ) → IsUtf8 text → IsUtf8 (quoted_text text)
quoted-utf8 text u =
    let quote : IsUtf8 (34 ∷ []) = IsUtf8-from_ascii (34 ∷ []) (IsAscii-cons 34 [] (omega arith) IsAscii-nil) in
    let inner : IsUtf8 (flat_map spelled text) = subst (λ s. IsUtf8 (flat_map spelled s)) u.1.1 (characters-utf8 u.0 u.1.0) in
    IsUtf8-append (34 ∷ []) (flat_map spelled text ++ 34 ∷ []) quote (IsUtf8-append (flat_map spelled text) (34 ∷ []) inner quote)

one-within : (text : List ℕ) → within_limit (Some (node.Quoted text)) ≡ Ok (node.Quoted text)
one-within text = rw (count-Quoted text) refl

pub quoted-reading : (text : List ℕ) → IsUtf8 text → reading (quoted_text text) ≡ Ok (node.Quoted text)
quoted-reading text u = rw (is_utf8-from_IsUtf8 (quoted_text text) (quoted-utf8 text u)) (ap within_limit (quoted-tree text) ∙ one-within text)
