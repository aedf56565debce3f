-- Tokens as arrays.
use Rattle.std.proofs.Common.{◌≡◌, ◌≤◌, ◌<◌, ◌+◌, ℕ, suc, Bool, true, false, if◌then◌else◌, List, [], ◌∷◌, ◌++◌, length, map, take, drop, length-drop, refl, ap, sym, arith, get_or}
use Rattle.std.specs.Int.{from_bool}
use Rattle.std.specs.List.{sum_by}
use Rattle.std.proofs.lemmas.List.{take-append-le, drop-append-le, drop_more, drop-drop, nil_from_length}
use Rattle.std.proofs.lemmas.List.Sums.{sum_by-cons}
use Rattle.yaml_tokens.specs.declared.packed.Packed.{Packed}
use Rattle.yaml_tokens.specs.declared.token.TokenKind.{TokenKind}
use Rattle.yaml_tokens.specs.Arrays.{texts_of, lens_of, packed, AreArrays}
use Rattle.yaml_tokens.specs.Packed.{has_text}

pub packed-length : (cs : List ℕ) (ks : List TokenKind) (ls : List ℕ) → length cs ≡ length ks
    → length (packed cs ks ls) ≡ length ks
packed-length [] ks ls e = e
packed-length (c ∷ cs) [] ls e = absurd (omega (arith, e))
packed-length (c ∷ cs) (k ∷ ks) ls e = ap (λ n. suc n) (packed-length cs ks (drop (texts_of k) ls) (omega (arith, e)))

-- the kinds of the tokens are the array of kinds
pub kinds-packed : (cs : List ℕ) (ks : List TokenKind) (ls : List ℕ) → length cs ≡ length ks
    → map (λ (p : Packed). p.kind) (packed cs ks ls) ≡ ks
kinds-packed [] [] ls e = refl
kinds-packed [] (k ∷ ks) ls e = absurd (omega (arith, e))
kinds-packed (c ∷ cs) [] ls e = absurd (omega (arith, e))
kinds-packed (c ∷ cs) (k ∷ ks) ls e = ap (λ js. k ∷ js) (kinds-packed cs ks (drop (texts_of k) ls) (omega (arith, e)))

pub packed-append : (cs ds : List ℕ) (ks js : List TokenKind) (ls ms : List ℕ) → length cs ≡ length ks
    → length ls ≡ sum_by texts_of ks → packed (cs ++ ds) (ks ++ js) (ls ++ ms) ≡ packed cs ks ls ++ packed ds js ms
packed-append [] ds [] js ls ms e f = ap (λ xs. packed ds js (xs ++ ms)) (nil_from_length ls f)
packed-append [] ds (k ∷ ks) js ls ms e f = absurd (omega (arith, e))
packed-append (c ∷ cs) ds [] js ls ms e f = absurd (omega (arith, e))
packed-append (c ∷ cs) ds (k ∷ ks) js ls ms e f =
    let some : texts_of k ≤ length ls = omega (arith, f, sum_by-cons texts_of k ks) in
    let rest : length (drop (texts_of k) ls) ≡ sum_by texts_of ks =
    omega (arith, f, sum_by-cons texts_of k ks, length-drop (texts_of k) ls) in
    rw (take-append-le (texts_of k) ls ms some, drop-append-le (texts_of k) ls ms some)
    (ap (λ ps. record { column = c; kind = k; len = get_or (take (texts_of k) ls) 0 0 } ∷ ps)
    (packed-append cs ds ks js (drop (texts_of k) ls) ms (omega (arith, e)) rest))

-- what is left behind the first token
pub packed-rest : (cs : List ℕ) (ks : List TokenKind) (ls : List ℕ) (taken read : ℕ) (k : TokenKind)
    → length cs ≡ length ks → taken < length ks
    → drop 1 (packed (drop taken cs) (drop taken ks) (drop read ls))
    ≡ packed (drop (taken + 1) cs) (drop (taken + 1) ks) (drop (read + texts_of (get_or ks taken k)) ls)
packed-rest cs ks ls taken read k e some =
    rw (drop_more cs taken 0 (omega (arith, e, some)), drop_more ks taken k some)
    (ap (packed (drop (taken + 1) cs) (drop (taken + 1) ks)) (drop-drop (texts_of (get_or ks taken k)) read ls))

-- the number of a test
pub from_bool-is : (b : Bool) → from_bool b ≡ (if b then 1 else 0)
from_bool-is true = refl
from_bool-is false = refl

-- one token
len-is : (b : Bool) (n : ℕ) → (b ≡ false → n ≡ 0)
    → get_or (take (if b then 1 else 0) (if b then n ∷ [] else [])) 0 0 ≡ n
len-is true n none = refl
len-is false n none = sym (none refl)

pub packed-one : (p : Packed) → (has_text p.kind ≡ false → p.len ≡ 0)
    → packed (p.column ∷ []) (p.kind ∷ []) (lens_of p) ≡ p ∷ []
packed-one p none = λ i. record { column = p.column; kind = p.kind; len = len-is (has_text p.kind) p.len none i } ∷ []

-- what is left, with more behind it
pub packed-more : (cs ds : List ℕ) (ks js : List TokenKind) (ls ms : List ℕ) (taken read : ℕ)
    → AreArrays cs ks ls taken read
    → packed (drop taken (cs ++ ds)) (drop taken (ks ++ js)) (drop read (ls ++ ms))
    ≡ packed (drop taken cs) (drop taken ks) (drop read ls) ++ packed ds js ms
packed-more cs ds ks js ls ms taken read h =
    rw (drop-append-le taken cs ds (omega (arith, h.as_many, h.within)), drop-append-le taken ks js h.within)
    (rw (drop-append-le read ls ms (omega (arith, h.lens_left)))
    (packed-append (drop taken cs) ds (drop taken ks) js (drop read ls) ms
    (omega (arith, h.as_many, length-drop taken cs, length-drop taken ks))
    (omega (arith, h.lens_left, length-drop read ls))))
