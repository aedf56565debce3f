-- Tokens whose texts lie behind one another.
use Rattle.std.proofs.Common.{◌≡◌, ◌≤◌, ℕ, suc, false, List, [], ◌∷◌, ◌++◌, length, map, take, drop, length-append, refl, ap, sym, ◌∙◌, subst, arith, Some}
use Rattle.std.proofs.Math.Seq.{take-length, drop-length}
use Rattle.std.proofs.lemmas.List.{take-append-le, drop-append-le}
use Rattle.std.specs.List.{slice_get}
use Rattle.std.specs.Str.{IsUtf8}
use Rattle.yaml_tokens.specs.declared.packed.Packed.{Packed}
use Rattle.yaml_tokens.specs.declared.token.Token.{Token}
use Rattle.yaml_tokens.specs.declared.token.Token.TheVariants.{Dash, Colon, Open, Close, Comma, Plain, Quoted, Anchor, Alias}
use Rattle.yaml_tokens.specs.declared.token.TokenKind.{TokenKind}
use Rattle.yaml_tokens.specs.declared.token.TokenKind.TheVariants as kind
use Rattle.yaml_tokens.specs.declared.token.Placed.{Placed}
use Rattle.yaml_tokens.specs.Packed.{has_text, kind_of, text_in, token_of, first_kind, second_kind, unpacked, ArePacked}

pub unpacked-length : (ps : List Packed) (s : List ℕ) → length (unpacked ps s) ≡ length ps
unpacked-length [] s = refl
unpacked-length (p ∷ ps) s = ap (λ n. suc n) (unpacked-length ps (drop p.len s))

unpacked-append : (ps qs : List Packed) (s t : List ℕ) → ArePacked ps s
    → unpacked (ps ++ qs) (s ++ t) ≡ unpacked ps s ++ unpacked qs t
unpacked-append [] qs s t h = ap (λ x. unpacked qs (x ++ t)) h
unpacked-append (p ∷ ps) qs s t h =
    rw (take-append-le p.len s t h.0, drop-append-le p.len s t h.0)
    (ap (λ ts. record { column = p.column; token = token_of p.kind (take p.len s) } ∷ ts)
    (unpacked-append ps qs (drop p.len s) t h.2))

ArePacked-append : (ps qs : List Packed) (s t : List ℕ) → ArePacked ps s → ArePacked qs t
    → ArePacked (ps ++ qs) (s ++ t)
ArePacked-append [] qs s t h more = subst (λ x. ArePacked qs (x ++ t)) (sym h) more
ArePacked-append (p ∷ ps) qs s t h more = (
  omega (arith, h.0, length-append s t),
  subst IsUtf8 (sym (take-append-le p.len s t h.0)) h.1,
  subst (ArePacked (ps ++ qs)) (sym (drop-append-le p.len s t h.0)) (ArePacked-append ps qs (drop p.len s) t h.2 more),
)

-- a token is that of its kind and its text
token-is : (t : Token) → token_of (kind_of t) (text_in t) ≡ t
token-is Dash = refl
token-is Colon = refl
token-is Open = refl
token-is Close = refl
token-is Comma = refl
token-is (Plain text) = refl
token-is (Quoted text) = refl
token-is (Anchor name) = refl
token-is (Alias name) = refl

-- a token of a kind without a text has none
pub no-text : (t : Token) → has_text (kind_of t) ≡ false → length (text_in t) ≡ 0
no-text Dash h = refl
no-text Colon h = refl
no-text Open h = refl
no-text Close h = refl
no-text Comma h = refl
no-text (Plain text) h = grind arith
no-text (Quoted text) h = grind arith
no-text (Anchor name) h = grind arith
no-text (Alias name) h = grind arith

-- one token with all of its text
pub unpacked-one : (p : Packed) (x : Placed) → p.column ≡ x.column → p.kind ≡ kind_of x.token
    → p.len ≡ length (text_in x.token) → unpacked (p ∷ []) (text_in x.token) ≡ x ∷ []
unpacked-one p x column kind len =
    (λ i. record { column = column i; token = token_of (kind i) (take (len i) (text_in x.token)) } ∷ [])
    ∙ (λ i. record { column = x.column; token = token_of (kind_of x.token) (take-length (text_in x.token) i) } ∷ [])
    ∙ (λ i. record { column = x.column; token = token-is x.token i } ∷ [])

pub ArePacked-one : (p : Packed) (t : List ℕ) → p.len ≡ length t → IsUtf8 t → ArePacked (p ∷ []) t
ArePacked-one p t len utf8 = (
  omega (arith, len),
  subst IsUtf8 (sym (ap (λ n. take n t) len ∙ take-length t)) utf8,
  ap (λ n. drop n t) len ∙ drop-length t,
)

-- what is left, with more behind it
pub ArePacked-more : (ps qs : List Packed) (s t : List ℕ) (read : ℕ) → read ≤ length s → ArePacked ps (drop read s)
    → ArePacked qs t → (read ≤ length (s ++ t)) × ArePacked (ps ++ qs) (drop read (s ++ t))
ArePacked-more ps qs s t read within left more = (
  omega (arith, length-append s t),
  rw (drop-append-le read s t within) (ArePacked-append ps qs (drop read s) t left more),
)

pub unpacked-more : (ps qs : List Packed) (s t : List ℕ) (read : ℕ) → read ≤ length s → ArePacked ps (drop read s)
    → unpacked (ps ++ qs) (drop read (s ++ t)) ≡ unpacked ps (drop read s) ++ unpacked qs t
unpacked-more ps qs s t read within left =
    rw (drop-append-le read s t within) (unpacked-append ps qs (drop read s) t left)

kind-is : (k : TokenKind) (t : List ℕ) → kind_of (token_of k t) ≡ k
kind-is kind.Dash t = refl
kind-is kind.Colon t = refl
kind-is kind.Open t = refl
kind-is kind.Close t = refl
kind-is kind.Comma t = refl
kind-is kind.Plain t = refl
kind-is kind.Quoted t = refl
kind-is kind.Anchor t = refl
kind-is kind.Alias t = refl

pub first_kind-is : (ps : List Packed) (s : List ℕ)
    → slice_get (map (λ (p : Packed). p.kind) ps) 0 ≡ first_kind (unpacked ps s)
first_kind-is [] s = refl
first_kind-is (p ∷ ps) s = ap Some (sym (kind-is p.kind (take p.len s)))

pub second_kind-is : (ps : List Packed) (s : List ℕ)
    → slice_get (map (λ (p : Packed). p.kind) ps) 1 ≡ second_kind (unpacked ps s)
second_kind-is [] s = refl
second_kind-is (p ∷ ps) s = first_kind-is ps (drop p.len s)
