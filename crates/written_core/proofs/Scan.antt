-- The tokens of one written line, found by the scan of its bytes.
use Rattle.std.proofs.Common.{◌≡◌, ℕ, zero, suc, ◌+◌, ◌-◌, ◌<◌, ◌≤◌, Bool, true, false, List, [], ◌∷◌, ◌++◌, length, refl, sym, ap, ◌∙◌, arith, subst, append-nil, Option, Some, length-append}
use Rattle.std.specs.Prelude.{◌==◌, ◌&&◌, not, nat_lt, option_map, option_and_then, if◌then◌else◌}
use Rattle.std.specs.List.{flat_map, list_all}
use Rattle.std.proofs.Math.Bool.{and-false}
use Rattle.std.proofs.lemmas.Bool.{and_parts}
use Rattle.yaml_tokens.specs.declared.token.Token.TheVariants.{Dash, Colon, Open, Close, Comma, Plain, Quoted, Anchor, Alias}
use Rattle.yaml_tokens.specs.declared.token.Before.{Before}
use Rattle.yaml_tokens.specs.declared.token.Before.TheVariants as before
use Rattle.yaml_tokens.specs.Tokens.{Line, Lexed, is_name, is_flow, is_indicator, is_separated, is_blank_next, ends_plain, breaks_plain, begins_plain, ends_quoted, plain, put_front, without_end, plain_token, quoted_token, name_at, name_token, token_at, block_token, bracket_token, is_first, is_scalar, seen, with_front, tokens_from}
use Rattle.yaml_tokens.specs.Written.{spelled, quoted_text}
use Rattle.yaml_tokens.proofs.WrittenLemmas.{text-read}
use Rattle.written_core.specs.Document.{is_word_byte, is_word, is_key, is_anchor, Scalar, Word, Text, Start, Item, Key, ItemKey, Value, Blank, One, Flow, Named, Same, DocLine, spaces, scalar_text, more_text, flow_text, value_text, key_text, body_text, line_text, at, scalar_token, more_tokens, flow_tokens, value_tokens, key_tokens, body_tokens, tokens_in, IsGoodScalar, AreGoodScalars, IsGoodValue, IsGoodStart, IsGoodLine}
use Rattle.written_core.proofs.Clean.{differs, name-word, word-all, key-all, key-parts}

-- ---- the scan of what is left of a line

-- From the column p on, the bytes give these tokens and this bracket depth; whatever the bound on the turns, if it's enough.
abbrev pub Scans : ℕ → Bool → ℕ → Before → List ℕ → Line → ℕ → Type 0
Scans p spaced depth was s ts after = (n : ℕ) → length s ≤ n → tokens_from n (p + length s) spaced depth was s ≡ Some (ts, after)

pub scan-end : (p : ℕ) (spaced : Bool) (depth : ℕ) (was : Before) → Scans p spaced depth was [] [] depth
unfolding tokens_from
scan-end p spaced depth was zero h = refl
scan-end p spaced depth was (suc n) h = refl

pub scan-space : (p : ℕ) (spaced : Bool) (depth : ℕ) (was : Before) (s : List ℕ) (ts : Line) (after : ℕ) → Scans (p + 1) true depth was s ts after → Scans p spaced depth was (32 ∷ s) ts after
unfolding tokens_from
scan-space p spaced depth was s ts after h zero le = absurd (omega arith)
scan-space p spaced depth was s ts after h (suc n) le =
    let width : p + length (32 ∷ s) ≡ (p + 1) + length s = omega arith in
    ap (λ w. tokens_from n w true depth was s) width ∙ h n (omega arith)

-- after a token
abbrev then_tokens : ℕ → ℕ → ℕ → Before → Option Lexed → Option (Line × ℕ)
then_tokens n width column was read = option_and_then (λ (x : Lexed). with_front (record { column = column; token = x.token }) (tokens_from n width false x.depth (seen was x.token) x.rest)) read

neither : {X : Type 0} (t u : Bool) (a b c : X) → t ≡ false → u ≡ false → (if t then a else (if u then b else c)) ≡ c
neither t u a b c et eu = rw (et, eu) refl

pub scan-token : (p k : ℕ) (spaced : Bool) (depth : ℕ) (was : Before) (b : ℕ) (bs : List ℕ) (x : Lexed) (ts : Line) (after : ℕ) → (b == 32) ≡ false → (b == 35) ≡ false → token_at depth was b bs ≡ Some x
    → length (b ∷ bs) ≡ k + length x.rest → 0 < k → Scans (p + k) false x.depth (seen was x.token) x.rest ts after → Scans p spaced depth was (b ∷ bs) (at p x.token ∷ ts) after
unfolding tokens_from
scan-token p k spaced depth was b bs x ts after eb eh et long some h zero le = absurd (omega arith)
scan-token p k spaced depth was b bs x ts after eb eh et long some h (suc n) le =
    let width : p + length (b ∷ bs) ≡ (p + k) + length x.rest = omega (arith, long) in
    let column : (p + length (b ∷ bs)) - length (b ∷ bs) ≡ p = omega arith in
    neither (b == 32) (b == 35 && spaced) _ _ _ eb (ap (λ t. t && spaced) eh) ∙ (ap (then_tokens n (p + length (b ∷ bs)) ((p + length (b ∷ bs)) - length (b ∷ bs)) was) et
    ∙ (λ i. with_front (at (column i) x.token) (tokens_from n (width i) false x.depth (seen was x.token) x.rest))
    ∙ ap (with_front (at p x.token)) (h n (omega (arith, le, long, some))))

-- ---- words

same_tests : {X : Type 0} (t : Bool) (x : X) → (if t then x else x) ≡ x
same_tests true x = refl
same_tests false x = refl

word-goes : (depth b : ℕ) (bs : List ℕ) → is_word_byte b ≡ true → ends_plain depth b bs ≡ false
word-goes depth b bs h =
    rw (differs is_word_byte b 32 h refl, differs is_word_byte b 58 h refl, differs is_word_byte b 44 h refl, differs is_word_byte b 91 h refl, differs is_word_byte b 93 h refl) (same_tests (depth == 0) false)

word-breaks : (depth b : ℕ) (bs : List ℕ) → is_word_byte b ≡ true → breaks_plain depth b bs ≡ false
word-breaks depth b bs h =
    rw (differs is_word_byte b 9 h refl, differs is_word_byte b 123 h refl, differs is_word_byte b 125 h refl, differs is_word_byte b 58 h refl) (and-false (nat_lt 0 depth))

-- a word is scanned whole up to where a plain scalar ends
pub word-plain : (depth : ℕ) (t r : List ℕ) → list_all is_word_byte t ≡ true → plain depth r ≡ Some ([], r) → plain depth (t ++ r) ≡ Some (t, r)
word-plain depth [] r h e = e
word-plain depth (b ∷ bs) r h e =
    let (first, more) = and_parts (is_word_byte b) (list_all is_word_byte bs) h in
    rw (word-goes depth b (bs ++ r) first, word-breaks depth b (bs ++ r) first) (ap (option_map (λ (p : List ℕ × List ℕ). (b ∷ p.0, p.1))) (word-plain depth bs r more e))

word-ends : (t : List ℕ) → list_all is_word_byte t ≡ true → without_end t ≡ t
word-ends [] h = refl
word-ends (b ∷ []) h = let (first, more) = and_parts (is_word_byte b) true h in rw (differs is_word_byte b 32 first refl) refl
word-ends (b ∷ c ∷ cs) h = let (first, more) = and_parts (is_word_byte b) (list_all is_word_byte (c ∷ cs)) h in ap (put_front b) (word-ends (c ∷ cs) more)

word-plain_token : (depth : ℕ) (t r : List ℕ) → list_all is_word_byte t ≡ true → plain depth r ≡ Some ([], r) → plain_token depth (t ++ r) ≡ Some (record { token = Plain t; rest = r; depth = depth })
word-plain_token depth t r h e =
    ap (option_map (λ (p : List ℕ × List ℕ). record { token = Plain (without_end p.0); rest = p.1; depth = depth })) (word-plain depth t r h e)
    ∙ ap (λ (u : List ℕ). Some (record { token = Plain u; rest = r; depth = depth })) (word-ends t h)

word-indicates : (b : ℕ) → is_word_byte b ≡ true → is_indicator b ≡ false
word-indicates b h =
    rw (differs is_word_byte b 44 h refl, differs is_word_byte b 93 h refl, differs is_word_byte b 123 h refl, differs is_word_byte b 125 h refl, differs is_word_byte b 35 h refl, differs is_word_byte b 38 h refl)
    (rw (differs is_word_byte b 42 h refl, differs is_word_byte b 33 h refl, differs is_word_byte b 124 h refl, differs is_word_byte b 62 h refl, differs is_word_byte b 37 h refl, differs is_word_byte b 64 h refl)
    (rw (differs is_word_byte b 96 h refl, differs is_word_byte b 39 h refl, differs is_word_byte b 34 h refl, differs is_word_byte b 9 h refl) refl))

word-flow : (b : ℕ) → is_word_byte b ≡ true → is_flow b ≡ false
word-flow b h = rw (differs is_word_byte b 44 h refl, differs is_word_byte b 91 h refl, differs is_word_byte b 93 h refl, differs is_word_byte b 123 h refl, differs is_word_byte b 125 h refl) refl

word-separated : (depth c : ℕ) (rest : List ℕ) → is_word_byte c ≡ true → is_separated depth (c ∷ rest) ≡ false
word-separated depth c rest h = rw (differs is_word_byte c 32 h refl, word-flow c h) (and-false (nat_lt 0 depth))

-- it isn't a dash if a dash would be alone
abbrev Begins : ℕ → ℕ → List ℕ → Type 0
Begins depth b bs = ((b == 45) ≡ true → is_blank_next bs ≡ false) × (begins_plain depth b bs ≡ true)

begins-by : (depth b : ℕ) (bs : List ℕ) (dash : Bool) → (b == 45) ≡ dash → is_word_byte b ≡ true → (dash ≡ true → is_separated depth bs ≡ false) → begins_plain depth b bs ≡ true
begins-by depth b bs true e h apart = rw (word-indicates b h, e, apart refl) refl
begins-by depth b bs false e h apart = rw (word-indicates b h, e, differs is_word_byte b 63 h refl, differs is_word_byte b 58 h refl) refl

not-true : (t : Bool) → not t ≡ true → t ≡ false
not-true true h = absurd (cc)
not-true false h = refl

true-false : {A : Type 0} (t : Bool) → t ≡ true → t ≡ false → A
true-false t h g = absurd (contrary (sym h ∙ g))
  where
    contrary : true ≡ false → ⊥
    contrary e = cc

word-begins : (depth b : ℕ) (bs r : List ℕ) → is_word (b ∷ bs) ≡ true → Begins depth b (bs ++ r)
word-begins depth b [] r h =
    let (first, more) = and_parts (is_word_byte b) (not (b == 45)) h in
    let other = not-true (b == 45) more in
    (λ e. true-false (b == 45) e other, begins-by depth b r false other first (λ e. true-false false e refl))
word-begins depth b (c ∷ cs) r h =
    let (first, more) = and_parts (is_word_byte b) (list_all is_word_byte (c ∷ cs)) h in
    let (second, others) = and_parts (is_word_byte c) (list_all is_word_byte cs) more in
    (λ e. differs is_word_byte c 32 second refl, begins-by depth b (c ∷ (cs ++ r)) (b == 45) refl first (λ e. word-separated depth c (cs ++ r) second))

no-dash : (b : ℕ) (bs : List ℕ) (first : Bool) → ((b == 45) ≡ true → is_blank_next bs ≡ false) → (b == 45 && is_blank_next bs && first) ≡ false
no-dash b bs first h = by_test (b == 45) refl
  where
    by_test : (t : Bool) → (b == 45) ≡ t → (b == 45 && is_blank_next bs && first) ≡ false
    by_test true e = rw (e, h e) refl
    by_test false e = rw e refl

none-of : {X : Type 0} (t u v w z : Bool) (a b c d e x : X) → t ≡ false → u ≡ false → v ≡ false → w ≡ false → z ≡ false
    → (if t then a else (if u then b else (if v then c else (if w then d else (if z then e else x))))) ≡ x
none-of t u v w z a b c d e x et eu ev ew ez = rw (et, eu, ev, ew, ez) refl

third : {X : Type 0} (t u v : Bool) (a b x y : X) → t ≡ false → u ≡ false → v ≡ true → (if t then a else (if u then b else (if v then x else y))) ≡ x
third t u v a b x y et eu ev = rw (et, eu, ev) refl

-- the tests of the characters that begin other tokens
word-token_at : (depth : ℕ) (was : Before) (b : ℕ) (bs : List ℕ) (x : Lexed) → is_word_byte b ≡ true → (if depth == 0 then block_token was b bs else bracket_token depth b bs) ≡ Some x → token_at depth was b bs ≡ Some x
word-token_at depth was b bs x h e =
    none-of (b == 39) (b == 34) (b == 38) (b == 42) (b == 91) _ _ _ _ _ _
    (differs is_word_byte b 39 h refl) (differs is_word_byte b 34 h refl) (differs is_word_byte b 38 h refl) (differs is_word_byte b 42 h refl) (differs is_word_byte b 91 h refl) ∙ e

word-first : (b : ℕ) (bs : List ℕ) → is_word (b ∷ bs) ≡ true → is_word_byte b ≡ true
word-first b [] h = (and_parts (is_word_byte b) (not (b == 45)) h).0
word-first b (c ∷ cs) h = (and_parts (is_word_byte b) (list_all is_word_byte (c ∷ cs)) h).0

-- outside brackets
pub word-outside : (was : Before) (b : ℕ) (bs r : List ℕ) → is_word (b ∷ bs) ≡ true → plain 0 r ≡ Some ([], r) → token_at 0 was b (bs ++ r) ≡ Some (record { token = Plain (b ∷ bs); rest = r; depth = 0 })
word-outside was b bs r h e =
    let first = word-first b bs h in
    let begins = word-begins 0 b bs r h in
    word-token_at 0 was b (bs ++ r) _ first
    (third (b == 45 && is_blank_next (bs ++ r) && is_first was) (b == 58 && is_blank_next (bs ++ r) && is_scalar was) (begins_plain 0 b (bs ++ r)) _ _ _ _
    (no-dash b (bs ++ r) (is_first was) begins.0) (ap (λ t. t && is_blank_next (bs ++ r) && is_scalar was) (differs is_word_byte b 58 first refl)) begins.1
    ∙ word-plain_token 0 (b ∷ bs) r (word-all (b ∷ bs) h) e)

-- in brackets
pub word-inside : (was : Before) (b : ℕ) (bs r : List ℕ) → is_word (b ∷ bs) ≡ true → plain 1 r ≡ Some ([], r) → token_at 1 was b (bs ++ r) ≡ Some (record { token = Plain (b ∷ bs); rest = r; depth = 1 })
word-inside was b bs r h e =
    let first = word-first b bs h in
    let begins = word-begins 1 b bs r h in
    word-token_at 1 was b (bs ++ r) _ first
    (third (b == 93) (b == 44) (begins_plain 1 b (bs ++ r)) _ _ _ _ (differs is_word_byte b 93 first refl) (differs is_word_byte b 44 first refl) begins.1
    ∙ word-plain_token 1 (b ∷ bs) r (word-all (b ∷ bs) h) e)

-- ---- texts in double quotes

quoted-at : (depth : ℕ) (was : Before) (t r : List ℕ) → ends_quoted depth r ≡ true → token_at depth was 34 ((flat_map spelled t ++ 34 ∷ []) ++ r) ≡ Some (record { token = Quoted t; rest = r; depth = depth })
quoted-at depth was t r e = ap (quoted_token depth) (text-read t r) ∙ rw e refl

-- ---- scalars

-- what may follow a scalar
pub record Follows (depth : ℕ) (r : List ℕ) : Type 0 where
  pub plain : plain depth r ≡ Some ([], r)
  pub quoted : ends_quoted depth r ≡ true

-- a scalar is scanned whole if it may end there
pub scalar-outside : (p : ℕ) (spaced : Bool) (was : Before) (s : Scalar) (r : List ℕ) (ts : Line) (after : ℕ) → IsGoodScalar s → Follows 0 r
    → Scans (p + length (scalar_text s)) false 0 before.Scalar r ts after → Scans p spaced 0 was (scalar_text s ++ r) (at p (scalar_token s) ∷ ts) after
scalar-outside p spaced was (Word []) r ts after h f more = absurd (cc)
scalar-outside p spaced was (Word (b ∷ bs)) r ts after h f more =
    let first = word-first b bs h in
    scan-token p (length (b ∷ bs)) spaced 0 was b (bs ++ r) (record { token = Plain (b ∷ bs); rest = r; depth = 0 }) ts after (differs is_word_byte b 32 first refl) (differs is_word_byte b 35 first refl)
    (word-outside was b bs r h f.plain) (length-append (b ∷ bs) r) (omega arith) more
scalar-outside p spaced was (Text t) r ts after h f more =
    scan-token p (length (quoted_text t)) spaced 0 was 34 ((flat_map spelled t ++ 34 ∷ []) ++ r) (record { token = Quoted t; rest = r; depth = 0 }) ts after refl refl
    (quoted-at 0 was t r f.quoted) (length-append (quoted_text t) r) (omega arith) more

pub scalar-inside : (p : ℕ) (spaced : Bool) (was : Before) (s : Scalar) (r : List ℕ) (ts : Line) (after : ℕ) → IsGoodScalar s → Follows 1 r
    → Scans (p + length (scalar_text s)) false 1 before.Scalar r ts after → Scans p spaced 1 was (scalar_text s ++ r) (at p (scalar_token s) ∷ ts) after
scalar-inside p spaced was (Word []) r ts after h f more = absurd (cc)
scalar-inside p spaced was (Word (b ∷ bs)) r ts after h f more =
    let first = word-first b bs h in
    scan-token p (length (b ∷ bs)) spaced 1 was b (bs ++ r) (record { token = Plain (b ∷ bs); rest = r; depth = 1 }) ts after (differs is_word_byte b 32 first refl) (differs is_word_byte b 35 first refl)
    (word-inside was b bs r h f.plain) (length-append (b ∷ bs) r) (omega arith) more
scalar-inside p spaced was (Text t) r ts after h f more =
    scan-token p (length (quoted_text t)) spaced 1 was 34 ((flat_map spelled t ++ 34 ∷ []) ++ r) (record { token = Quoted t; rest = r; depth = 1 }) ts after refl refl
    (quoted-at 1 was t r f.quoted) (length-append (quoted_text t) r) (omega arith) more

-- a space, and then a scalar up to the end of the line
scalar-last : (p : ℕ) (was : Before) (s : Scalar) → IsGoodScalar s → Scans p true 0 was (scalar_text s) (at p (scalar_token s) ∷ []) 0
scalar-last p was s h = subst (λ (x : List ℕ). Scans p true 0 was x (at p (scalar_token s) ∷ []) 0) (append-nil (scalar_text s))
    (scalar-outside p true was s [] [] 0 h (record { plain = refl; quoted = refl }) (scan-end (p + length (scalar_text s)) false 0 before.Scalar))

-- ---- flow lists

more-follows : (ss : List Scalar) → Follows 1 (more_text ss)
more-follows [] = record { plain = refl; quoted = refl }
more-follows (s ∷ ss) = record { plain = refl; quoted = refl }

more-scan : (p : ℕ) (was : Before) (ss : List Scalar) → AreGoodScalars ss → Scans p false 1 was (more_text ss) (more_tokens p ss) 0
more-scan p was [] h =
    scan-token p 1 false 1 was 93 [] (record { token = Close; rest = []; depth = 0 }) [] 0 refl refl refl (omega arith) (omega arith) (scan-end (p + 1) false 0 before.Other)
more-scan p was (s ∷ ss) h =
    let behind = scalar_text s ++ more_text ss in
    let two : p + 1 + 1 ≡ p + 2 = omega arith in
    scan-token p 1 false 1 was 44 (32 ∷ behind) (record { token = Comma; rest = 32 ∷ behind; depth = 1 }) _ 0 refl refl refl (omega arith) (omega arith)
    (scan-space (p + 1) false 1 before.Other behind _ 0
    (subst (λ q. Scans q true 1 before.Other behind (at (p + 2) (scalar_token s) ∷ more_tokens (p + 2 + length (scalar_text s)) ss) 0) (sym two)
    (scalar-inside (p + 2) true before.Other s (more_text ss) _ 0 h.0 (more-follows ss) (more-scan (p + 2 + length (scalar_text s)) before.Scalar ss h.1))))

flow-scan : (p : ℕ) (was : Before) (ss : List Scalar) → AreGoodScalars ss → Scans p true 0 was (flow_text ss) (flow_tokens p ss) 0
flow-scan p was [] h =
    scan-token p 1 true 0 was 91 (93 ∷ []) (record { token = Open; rest = 93 ∷ []; depth = 1 }) _ 0 refl refl refl (omega arith) (omega arith) (more-scan (p + 1) before.Other [] tt)
flow-scan p was (s ∷ ss) h =
    let behind = scalar_text s ++ more_text ss in
    scan-token p 1 true 0 was 91 behind (record { token = Open; rest = behind; depth = 1 }) _ 0 refl refl refl (omega arith) (omega arith)
    (scalar-inside (p + 1) false before.Other s (more_text ss) _ 0 h.0 (more-follows ss) (more-scan (p + 1 + length (scalar_text s)) before.Scalar ss h.1))

-- ---- anchors and aliases

name-whole : (name : List ℕ) → list_all is_name name ≡ true → name_at name ≡ (name, [])
name-whole [] h = refl
name-whole (b ∷ bs) h = let (first, more) = and_parts (is_name b) (list_all is_name bs) h in rw (first, name-whole bs more) refl

anchor-last : (p : ℕ) (was : Before) (name : List ℕ) → is_anchor name ≡ true → Scans p true 0 was (38 ∷ name) (at p (Anchor name) ∷ []) 0
anchor-last p was [] h = absurd (cc)
anchor-last p was (b ∷ bs) h =
    scan-token p (length (38 ∷ b ∷ bs)) true 0 was 38 (b ∷ bs) (record { token = Anchor (b ∷ bs); rest = []; depth = 0 }) [] 0 refl refl (ap (name_token Anchor 0) (name-whole (b ∷ bs) h)) (omega arith) (omega arith)
    (scan-end (p + length (38 ∷ b ∷ bs)) false 0 before.Other)

alias-last : (p : ℕ) (was : Before) (name : List ℕ) → is_anchor name ≡ true → Scans p true 0 was (42 ∷ name) (at p (Alias name) ∷ []) 0
alias-last p was [] h = absurd (cc)
alias-last p was (b ∷ bs) h =
    scan-token p (length (42 ∷ b ∷ bs)) true 0 was 42 (b ∷ bs) (record { token = Alias (b ∷ bs); rest = []; depth = 0 }) [] 0 refl refl (ap (name_token Alias 0) (name-whole (b ∷ bs) h)) (omega arith) (omega arith)
    (scan-end (p + length (42 ∷ b ∷ bs)) false 0 before.Other)

-- ---- a line

value-scan : (p : ℕ) (was : Before) (v : Value) → IsGoodValue v → Scans p false 0 was (value_text v) (value_tokens p v) 0
value-scan p was Blank h = scan-end p false 0 was
value-scan p was (One s) h = scan-space p false 0 was (scalar_text s) _ 0 (scalar-last (p + 1) was s h)
value-scan p was (Flow ss) h = scan-space p false 0 was (flow_text ss) _ 0 (flow-scan (p + 1) was ss h)
value-scan p was (Named name) h = scan-space p false 0 was (38 ∷ name) _ 0 (anchor-last (p + 1) was name h)
value-scan p was (Same name) h = scan-space p false 0 was (42 ∷ name) _ 0 (alias-last (p + 1) was name h)

value-blank : (v : Value) → is_blank_next (value_text v) ≡ true
value-blank Blank = refl
value-blank (One s) = refl
value-blank (Flow ss) = refl
value-blank (Named name) = refl
value-blank (Same name) = refl

colon-plain : (r : List ℕ) → is_blank_next r ≡ true → plain 0 (58 ∷ r) ≡ Some ([], 58 ∷ r)
colon-plain r h = rw h refl

colon-at : (r : List ℕ) → is_blank_next r ≡ true → token_at 0 before.Scalar 58 r ≡ Some (record { token = Colon; rest = r; depth = 0 })
colon-at r h = rw h refl

dash-at : (r : List ℕ) → is_blank_next r ≡ true → token_at 0 before.Nothing 45 r ≡ Some (record { token = Dash; rest = r; depth = 0 })
dash-at r h = rw h refl

key-word : (b : ℕ) (bs : List ℕ) → is_key (b ∷ bs) ≡ true → is_word (b ∷ bs) ≡ true
key-word b [] h = let (p, q) = key-parts b [] h in rw (name-word b p.0, p.1) refl
key-word b (c ∷ cs) h = key-all (b ∷ c ∷ cs) h

key-scan : (p : ℕ) (spaced : Bool) (was : Before) (key : List ℕ) (v : Value) → is_key key ≡ true → IsGoodValue v → Scans p spaced 0 was (key_text key v) (key_tokens p key v) 0
key-scan p spaced was [] v hk hv = absurd (cc)
key-scan p spaced was (b ∷ bs) v hk hv =
    let blank = value-blank v in
    let key = b ∷ bs in
    let word = key-word b bs hk in
    let first = word-first b bs word in
    scan-token p (length key) spaced 0 was b (bs ++ 58 ∷ value_text v) (record { token = Plain key; rest = 58 ∷ value_text v; depth = 0 }) _ 0 (differs is_word_byte b 32 first refl) (differs is_word_byte b 35 first refl)
    (word-outside was b bs (58 ∷ value_text v) word (colon-plain (value_text v) blank)) (length-append key (58 ∷ value_text v)) (omega arith)
    (scan-token (p + length key) 1 false 0 before.Scalar 58 (value_text v) (record { token = Colon; rest = value_text v; depth = 0 }) _ 0 refl refl
    (colon-at (value_text v) blank) (omega arith) (omega arith) (value-scan (p + length key + 1) before.Other v hv))

body-scan : (p : ℕ) (start : Start) (v : Value) → IsGoodStart start → IsGoodValue v → Scans p true 0 before.Nothing (body_text start v) (body_tokens p start v) 0
body-scan p Item v hs hv =
    scan-token p 1 true 0 before.Nothing 45 (value_text v) (record { token = Dash; rest = value_text v; depth = 0 }) _ 0 refl refl (dash-at (value_text v) (value-blank v)) (omega arith) (omega arith)
    (value-scan (p + 1) before.Nothing v hv)
body-scan p (Key key) v hs hv = key-scan p true before.Nothing key v hs hv
body-scan p (ItemKey key) v hs hv =
    let two : p + 1 + 1 ≡ p + 2 = omega arith in
    scan-token p 1 true 0 before.Nothing 45 (32 ∷ key_text key v) (record { token = Dash; rest = 32 ∷ key_text key v; depth = 0 }) _ 0 refl refl refl (omega arith) (omega arith)
    (scan-space (p + 1) false 0 before.Nothing (key_text key v) _ 0
    (subst (λ q. Scans q true 0 before.Nothing (key_text key v) (key_tokens (p + 2) key v) 0) (sym two) (key-scan (p + 2) true before.Nothing key v hs hv)))

spaces-scan : (c p : ℕ) (s : List ℕ) (ts : Line) → Scans (p + c) true 0 before.Nothing s ts 0 → Scans p true 0 before.Nothing (spaces c ++ s) ts 0
spaces-scan zero p s ts h = let none : p + 0 ≡ p = omega arith in subst (λ q. Scans q true 0 before.Nothing s ts 0) none h
spaces-scan (suc c) p s ts h =
    let next : p + suc c ≡ (p + 1) + c = omega arith in
    scan-space p true 0 before.Nothing (spaces c ++ s) ts 0 (spaces-scan c (p + 1) s ts (subst (λ q. Scans q true 0 before.Nothing s ts 0) next h))

-- the scan of a written line gives its tokens
pub line-scan : (l : DocLine) → IsGoodLine l → tokens_from (length (line_text l)) (length (line_text l)) true 0 before.Nothing (line_text l) ≡ Some (tokens_in l, 0)
line-scan l h =
    let text = line_text l in
    let start : 0 + l.indent ≡ l.indent = omega arith in
    let width : 0 + length text ≡ length text = omega arith in
    let scan = spaces-scan l.indent 0 (body_text l.start l.value) (tokens_in l) (subst (λ p. Scans p true 0 before.Nothing (body_text l.start l.value) (tokens_in l) 0) (sym start) (body-scan l.indent l.start l.value h.0 h.1)) in
    ap (λ w. tokens_from (length text) w true 0 before.Nothing text) (sym width) ∙ scan (length text) (omega arith)
