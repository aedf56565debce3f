-- The bytes of written lines: none is refused, and what a byte of a word is not.
use Rattle.std.proofs.Common.{◌≡◌, ℕ, zero, suc, ◌/◌, ◌%◌, ◌<◌, Bool, true, false, List, [], ◌∷◌, ◌++◌, refl, sym, ap, ◌∙◌, arith}
use Rattle.std.specs.Prelude.{◌==◌, ◌&&◌, not, nat_lt}
use Rattle.std.specs.List.{All, flat_map, list_all}
use Rattle.std.proofs.lemmas.Bool.{and_parts}
use Rattle.std.proofs.lemmas.Bool.Decides.{nat_tests}
use Rattle.std.proofs.lemmas.List.Elements.{All-nil, All-cons, All-append}
use Rattle.std.proofs.lemmas.Nat.{div_below, mod_below}
use Rattle.yaml_tokens.specs.Tokens.{is_refused, is_name}
use Rattle.yaml_tokens.specs.Written.{is_mark, is_control, hex_digit, hex_escape, spelled, quoted_text}
use Rattle.written_core.specs.Document.{is_word_byte, is_word, is_key, is_anchor, Scalar, Word, Text, Start, Item, Key, ItemKey, Value, Blank, One, Flow, Named, Same, DocLine, spaces, scalar_text, more_text, flow_text, value_text, key_text, body_text, line_text, IsGoodScalar, AreGoodScalars, IsGoodValue, IsGoodStart, IsGoodLine}

-- ---- bytes of words

-- a byte that passes a test is none that doesn't
pub differs : (test : ℕ → Bool) (b c : ℕ) → test b ≡ true → test c ≡ false → (b == c) ≡ false
differs test b c passes fails = by_test (b == c) refl
  where
    by_test : (t : Bool) → (b == c) ≡ t → (b == c) ≡ false
    by_test false e = e
    by_test true e = let same : b ≡ c = grind (arith, nat_tests) in absurd (contrary (sym passes ∙ ap test same ∙ fails))
      where
        contrary : true ≡ false → ⊥
        contrary e = cc

pub name-word : (b : ℕ) → is_name b ≡ true → is_word_byte b ≡ true
name-word b h = rw h refl

-- ---- bytes that are not refused

abbrev pub IsClean : ℕ → Type 0
IsClean b = is_refused b ≡ false

pub word-clean : (b : ℕ) → is_word_byte b ≡ true → IsClean b
word-clean b h =
    let low : nat_lt b 32 ≡ false = grind (arith, nat_tests) in
    let last : (b == 127) ≡ false = differs is_word_byte b 127 h refl in
    rw (low, last) refl

visible-clean : (b : ℕ) → is_control b ≡ false → IsClean b
visible-clean b h =
    let low : nat_lt b 32 ≡ false = grind (arith, nat_tests) in
    let last : (b == 127) ≡ false = grind (arith, nat_tests) in
    rw (low, last) refl

digit-clean : (n : ℕ) → n < 16 → IsClean (hex_digit n)
digit-clean n h = visible-clean (hex_digit n) (control n h)
  where
    control : (n : ℕ) → n < 16 → is_control (hex_digit n) ≡ false
    control n h = grind (arith, nat_tests)

one-clean : (b : ℕ) → IsClean b → All IsClean (b ∷ [])
one-clean b h = All-cons IsClean b [] h (All-nil IsClean)

hex-clean : (b : ℕ) → b < 128 → All IsClean (hex_escape b)
hex-clean b h =
    let high = hex_digit (b / 16) in
    let low = hex_digit (b % 16) in
    All-cons IsClean 92 (120 ∷ high ∷ low ∷ []) refl (All-cons IsClean 120 (high ∷ low ∷ []) refl
    (All-cons IsClean high (low ∷ []) (digit-clean (b / 16) (div_below b 16 16 (omega arith) (omega arith))) (one-clean low (digit-clean (b % 16) (mod_below b 16 (omega arith))))))

spelled-clean : (b : ℕ) → All IsClean (spelled b)
spelled-clean b = by_tests (is_mark b) (is_control b) refl refl
  where
    by_tests : (mark control : Bool) → is_mark b ≡ mark → is_control b ≡ control → All IsClean (spelled b)
    by_tests true control em ec =
        let none : is_control b ≡ false = grind (arith, nat_tests) in
        rw em (All-cons IsClean 92 (b ∷ []) refl (one-clean b (visible-clean b none)))
    by_tests false true em ec = let ascii : b < 128 = grind (arith, nat_tests) in rw (em, ec) (hex-clean b ascii)
    by_tests false false em ec = rw (em, ec) (one-clean b (visible-clean b ec))

inner-clean : (text : List ℕ) → All IsClean (flat_map spelled text)
inner-clean [] = All-nil IsClean
inner-clean (b ∷ bs) = All-append IsClean (spelled b) (flat_map spelled bs) (spelled-clean b) (inner-clean bs)

quoted-clean : (text : List ℕ) → All IsClean (quoted_text text)
quoted-clean text = All-cons IsClean 34 (flat_map spelled text ++ 34 ∷ []) refl (All-append IsClean (flat_map spelled text) (34 ∷ []) (inner-clean text) (one-clean 34 refl))

-- each passes the test
pub words-clean : (bs : List ℕ) → list_all is_word_byte bs ≡ true → All IsClean bs
words-clean [] h = All-nil IsClean
words-clean (b ∷ bs) h = let (first, more) = and_parts (is_word_byte b) (list_all is_word_byte bs) h in All-cons IsClean b bs (word-clean b first) (words-clean bs more)

pub names-words : (bs : List ℕ) → list_all is_name bs ≡ true → list_all is_word_byte bs ≡ true
names-words [] h = refl
names-words (b ∷ bs) h = let (first, more) = and_parts (is_name b) (list_all is_name bs) h in rw (name-word b first, names-words bs more) refl

pub word-all : (t : List ℕ) → is_word t ≡ true → list_all is_word_byte t ≡ true
word-all [] h = absurd (cc)
word-all (b ∷ []) h = let (first, more) = and_parts (is_word_byte b) (not (b == 45)) h in rw first refl
word-all (b ∷ c ∷ cs) h = h

-- what the first byte of a key passes, and the others
pub key-parts : (b : ℕ) (bs : List ℕ) → is_key (b ∷ bs) ≡ true → ((is_name b ≡ true) × (not (b == 45) ≡ true)) × (list_all is_word_byte bs ≡ true)
key-parts b bs h = let (p, q) = and_parts (is_name b && not (b == 45)) (list_all is_word_byte bs) h in (and_parts (is_name b) (not (b == 45)) p, q)

pub key-all : (t : List ℕ) → is_key t ≡ true → list_all is_word_byte t ≡ true
key-all [] h = absurd (cc)
key-all (b ∷ bs) h = let (p, r) = key-parts b bs h in rw (name-word b p.0, r) refl

-- ---- the parts of a line

spaces-clean : (n : ℕ) → All IsClean (spaces n)
spaces-clean zero = All-nil IsClean
spaces-clean (suc n) = All-cons IsClean 32 (spaces n) refl (spaces-clean n)

scalar-clean : (s : Scalar) → IsGoodScalar s → All IsClean (scalar_text s)
scalar-clean (Word t) h = words-clean t (word-all t h)
scalar-clean (Text t) h = quoted-clean t

more-clean : (ss : List Scalar) → AreGoodScalars ss → All IsClean (more_text ss)
more-clean [] h = one-clean 93 refl
more-clean (s ∷ ss) h =
    All-cons IsClean 44 (32 ∷ (scalar_text s ++ more_text ss)) refl (All-cons IsClean 32 (scalar_text s ++ more_text ss) refl
    (All-append IsClean (scalar_text s) (more_text ss) (scalar-clean s h.0) (more-clean ss h.1)))

flow-clean : (ss : List Scalar) → AreGoodScalars ss → All IsClean (flow_text ss)
flow-clean [] h = All-cons IsClean 91 (93 ∷ []) refl (one-clean 93 refl)
flow-clean (s ∷ ss) h = All-cons IsClean 91 (scalar_text s ++ more_text ss) refl (All-append IsClean (scalar_text s) (more_text ss) (scalar-clean s h.0) (more-clean ss h.1))

anchor-clean : (name : List ℕ) → is_anchor name ≡ true → All IsClean name
anchor-clean [] h = absurd (cc)
anchor-clean (b ∷ bs) h = words-clean (b ∷ bs) (names-words (b ∷ bs) h)

value-clean : (v : Value) → IsGoodValue v → All IsClean (value_text v)
value-clean Blank h = All-nil IsClean
value-clean (One s) h = All-cons IsClean 32 (scalar_text s) refl (scalar-clean s h)
value-clean (Flow ss) h = All-cons IsClean 32 (flow_text ss) refl (flow-clean ss h)
value-clean (Named name) h = All-cons IsClean 32 (38 ∷ name) refl (All-cons IsClean 38 name refl (anchor-clean name h))
value-clean (Same name) h = All-cons IsClean 32 (42 ∷ name) refl (All-cons IsClean 42 name refl (anchor-clean name h))

key-clean : (key : List ℕ) (v : Value) → is_key key ≡ true → IsGoodValue v → All IsClean (key_text key v)
key-clean key v hk hv = All-append IsClean key (58 ∷ value_text v) (words-clean key (key-all key hk)) (All-cons IsClean 58 (value_text v) refl (value-clean v hv))

body-clean : (start : Start) (v : Value) → IsGoodStart start → IsGoodValue v → All IsClean (body_text start v)
body-clean Item v hs hv = All-cons IsClean 45 (value_text v) refl (value-clean v hv)
body-clean (Key key) v hs hv = key-clean key v hs hv
body-clean (ItemKey key) v hs hv = All-cons IsClean 45 (32 ∷ key_text key v) refl (All-cons IsClean 32 (key_text key v) refl (key-clean key v hs hv))

pub line-clean : (l : DocLine) → IsGoodLine l → All IsClean (line_text l)
line-clean l h = All-append IsClean (spaces l.indent) (body_text l.start l.value) (spaces-clean l.indent) (body-clean l.start l.value h.0 h.1)
