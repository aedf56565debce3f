-- The tokens of a line.
use Rattle.std.proofs.Common.{◌≡◌, ◌≢◌, ℕ, zero, suc, ◌+◌, ◌-◌, ◌<◌, ◌≤◌, Bool, true, false, List, [], ◌∷◌, ◌++◌, length, drop, get_or, refl, sym, ap, ◌∙◌, arith, append_assoc, append-nil, Option, Some, None}
use Rattle.std.specs.Prelude.{option_map, ◌==◌, ◌&&◌, if◌then◌else◌}
use Rattle.std.proofs.Common.{subst}
use Rattle.std.specs.Str.{IsUtf8, IsCharBoundary}
use Rattle.std.proofs.lemmas.Str.{IsCharBoundary-after_ascii}
use Rattle.yaml_tokens.specs.declared.token.Before.{Before}
use Rattle.std.specs.Prelude.{option_and_then}
use Rattle.yaml_tokens.specs.declared.token.Placed.{Placed}
use Rattle.yaml_tokens.specs.Lexer.{IsRising}
use Rattle.yaml_tokens.specs.Lexer.{Takes, EndsBelow}
use Rattle.yaml_tokens.specs.Tokens.{token_at, Line, Lexed, tokens_from, with_front, seen}

-- ---- tokens of one byte

pub takes-one : (s : List ℕ) → IsUtf8 s → 0 < length s → get_or s 0 0 < 128 → Takes s 1
takes-one s u some ascii =
    let one : 0 + 1 ≡ 1 = omega arith in
    record { some = omega arith; within = omega arith; boundary = subst (IsCharBoundary s) one (IsCharBoundary-after_ascii s 0 u some ascii) }

-- ---- a line

abbrev pub with_tokens : Line → Option (Line × ℕ) → Option (Line × ℕ)
with_tokens front read = option_map (λ p. (front ++ p.0, p.1)) read

pub with_tokens-none : (read : Option (Line × ℕ)) → with_tokens [] read ≡ read
with_tokens-none None = refl
with_tokens-none (Some p) = refl

with_tokens-more : (front : Line) (t : Placed) (read : Option (Line × ℕ)) → with_tokens front (with_front t read) ≡ with_tokens (front ++ t ∷ []) read
with_tokens-more front t None = refl
with_tokens-more front t (Some p) = ap (λ (ts : Line). Some (ts, p.1)) (sym (append_assoc front (t ∷ []) p.0))

pub rising-push : (ts : Line) (t : Placed) → IsRising ts → EndsBelow ts t.column → IsRising (ts ++ t ∷ [])
rising-push [] t r e = tt
rising-push (a ∷ []) t r e = (e, tt)
rising-push (a ∷ b ∷ ts) t r e = (r.0, rising-push (b ∷ ts) t r.1 e)

pub ends-push : (ts : Line) (t : Placed) (c : ℕ) → t.column < c → EndsBelow (ts ++ t ∷ []) c
ends-push [] t c h = h
ends-push (a ∷ []) t c h = h
ends-push (a ∷ b ∷ ts) t c h = ends-push (b ∷ ts) t c h

pub ends-more : (ts : Line) (c d : ℕ) → c ≤ d → EndsBelow ts c → EndsBelow ts d
ends-more [] c d h e = tt
ends-more (t ∷ []) c d h e = omega arith
ends-more (t ∷ u ∷ ts) c d h e = ends-more (u ∷ ts) c d h e

pub line-end : (n width : ℕ) (spaced : Bool) (depth : ℕ) (was : Before) (front : Line) → with_tokens front (tokens_from n width spaced depth was []) ≡ Some (front, depth)
unfolding tokens_from
line-end zero width spaced depth was front = ap (λ (ts : Line). Some (ts, depth)) (append-nil front)
line-end (suc n) width spaced depth was front = ap (λ (ts : Line). Some (ts, depth)) (append-nil front)

pub line-out : (width : ℕ) (spaced : Bool) (depth : ℕ) (was : Before) (s : List ℕ) (front : Line) → with_tokens front (tokens_from 0 width spaced depth was s) ≡ Some (front, depth)
unfolding tokens_from
line-out width spaced depth was s front = ap (λ (ts : Line). Some (ts, depth)) (append-nil front)

pub line-space : (n m width : ℕ) (spaced : Bool) (depth : ℕ) (was : Before) (s : List ℕ) → n ≡ m + 1 → 0 < length s → get_or s 0 0 ≡ 32
    → tokens_from n width spaced depth was s ≡ tokens_from m width true depth was (drop 1 s)
unfolding tokens_from
line-space zero m width spaced depth was s e some b = absurd (omega arith)
line-space (suc n) m width spaced depth was [] e some b = absurd (omega arith)
line-space (suc n) m width spaced depth was (c ∷ cs) e some b =
    let same : n ≡ m = omega arith in
    let space : (c == 32) ≡ true = ap (λ x. x == 32) b in
    rw (space, same) refl

pub line-comment : (n width : ℕ) (spaced : Bool) (depth : ℕ) (was : Before) (s : List ℕ) (front : Line) → 0 < n → 0 < length s → get_or s 0 0 ≢ 32 → (get_or s 0 0 == 35 && spaced) ≡ true
    → with_tokens front (tokens_from n width spaced depth was s) ≡ Some (front, depth)
unfolding tokens_from
line-comment zero width spaced depth was s front h some b k = absurd (omega arith)
line-comment (suc n) width spaced depth was [] front h some b k = absurd (omega arith)
line-comment (suc n) width spaced depth was (c ∷ cs) front h some b k =
    let other : (c == 32) ≡ false = grind arith in
    rw (other, k) (ap (λ (ts : Line). Some (ts, depth)) (append-nil front))

abbrev after_token : ℕ → ℕ → ℕ → Before → Option Lexed → Option (Line × ℕ)
after_token n width column was read = option_and_then (λ (x : Lexed). with_front (record { column = column; token = x.token }) (tokens_from n width false x.depth (seen was x.token) x.rest)) read

neither : {X : Type 0} (t u : Bool) (a b c : X) → t ≡ false → u ≡ false → (if t then a else (if u then b else c)) ≡ c
neither t u a b c et eu = rw (et, eu) refl

line-token : (n width : ℕ) (spaced : Bool) (depth : ℕ) (was : Before) (s : List ℕ) → 0 < length s → get_or s 0 0 ≢ 32 → (get_or s 0 0 == 35 && spaced) ≡ false
    → tokens_from (suc n) width spaced depth was s ≡ after_token n width (width - length s) was (token_at depth was (get_or s 0 0) (drop 1 s))
unfolding tokens_from
line-token n width spaced depth was [] some b k = absurd (omega arith)
line-token n width spaced depth was (c ∷ cs) some b k =
    let other : (c == 32) ≡ false = grind arith in
    neither (c == 32) (c == 35 && spaced) _ _ _ other k

pub line-next : (n m width : ℕ) (spaced : Bool) (depth : ℕ) (was : Before) (s : List ℕ) (front : Line) (x : Lexed) (column : ℕ) → n ≡ m + 1 → 0 < length s → get_or s 0 0 ≢ 32
    → (get_or s 0 0 == 35 && spaced) ≡ false → column ≡ width - length s → token_at depth was (get_or s 0 0) (drop 1 s) ≡ Some x
    → with_tokens front (tokens_from n width spaced depth was s) ≡ with_tokens (front ++ record { column = column; token = x.token } ∷ []) (tokens_from m width false x.depth (seen was x.token) x.rest)
line-next zero m width spaced depth was s front x column e some b k ec et = absurd (omega arith)
line-next (suc n) m width spaced depth was s front x column e some b k ec et =
    let same : n ≡ m = omega arith in
    ap (with_tokens front) (line-token n width spaced depth was s some b k ∙ ap (after_token n width (width - length s) was) et)
    ∙ with_tokens-more front (record { column = width - length s; token = x.token }) (tokens_from n width false x.depth (seen was x.token) x.rest)
    ∙ (λ i. with_tokens (front ++ record { column = sym ec i; token = x.token } ∷ []) (tokens_from (same i) width false x.depth (seen was x.token) x.rest))

pub line-none : (n width : ℕ) (spaced : Bool) (depth : ℕ) (was : Before) (s : List ℕ) (front : Line) → 0 < n → 0 < length s → get_or s 0 0 ≢ 32 → (get_or s 0 0 == 35 && spaced) ≡ false
    → token_at depth was (get_or s 0 0) (drop 1 s) ≡ None → with_tokens front (tokens_from n width spaced depth was s) ≡ None
line-none zero width spaced depth was s front h some b k et = absurd (omega arith)
line-none (suc n) width spaced depth was s front h some b k et = ap (with_tokens front) (line-token n width spaced depth was s some b k ∙ ap (after_token n width (width - length s) was) et)

pub line-end-at : (n width : ℕ) (spaced : Bool) (depth : ℕ) (was : Before) (s : List ℕ) (front : Line) → length s ≡ 0 → with_tokens front (tokens_from n width spaced depth was s) ≡ Some (front, depth)
line-end-at n width spaced depth was [] front e = line-end n width spaced depth was front
line-end-at n width spaced depth was (c ∷ cs) front e = absurd (omega arith)
