-- The names of anchors and aliases, byte by byte.
use Rattle.std.proofs.Common.{◌≡◌, ℕ, Bool, ◌+◌, ◌<◌, ◌≤◌, true, false, List, [], ◌∷◌, ◌++◌, length, take, drop, get_or, refl, sym, ap, ◌∙◌, ◌-◌, subst, arith, append_assoc, drop-cons, add-one, length-drop, Some}
use Rattle.std.specs.Prelude.{◌&&◌, nat_lt}
use Rattle.std.proofs.lemmas.List.{take_more, drop-drop, length-take}
use Rattle.std.specs.Str.{IsUtf8, IsCharBoundary}
use Rattle.std.proofs.lemmas.Str.{IsCharBoundary-after_ascii, IsCharBoundary-from_rest}
use Rattle.std.proofs.lemmas.Bool.Decides.{nat_tests}
use Rattle.yaml_tokens.specs.declared.token.Token.{Token}
use Rattle.yaml_tokens.specs.Lexer.{Takes}
use Rattle.yaml_tokens.specs.Tokens.{is_name, name_at, ends_name, name_token}

-- a name with more characters at its front
abbrev pub after_name : List ℕ → List ℕ × List ℕ → List ℕ × List ℕ
after_name front p = (front ++ p.0, p.1)

-- the characters of a name are ASCII
pub name-ascii : (b : ℕ) → is_name b ≡ true → b < 128
name-ascii b e = grind (arith, nat_tests)

name-more : (b : ℕ) (bs : List ℕ) → is_name b ≡ true → name_at (b ∷ bs) ≡ after_name (b ∷ []) (name_at bs)
name-more b bs e = rw e refl

first-and-rest : (bs : List ℕ) (at : ℕ) → at < length bs → drop at bs ≡ get_or bs at 0 ∷ drop (at + 1) bs
first-and-rest bs at h = drop-cons bs at 0 h ∙ ap (λ i. get_or bs at 0 ∷ drop i bs) (sym (add-one at))

pub name-turn : (bs : List ℕ) (at : ℕ) → at < length bs → is_name (get_or bs at 0) ≡ true
    → after_name (take at bs) (name_at (drop at bs)) ≡ after_name (take (at + 1) bs) (name_at (drop (at + 1) bs))
name-turn bs at h e =
    let b = get_or bs at 0 in
    let rest = drop (at + 1) bs in
    ap (λ x. after_name (take at bs) (name_at x)) (first-and-rest bs at h)
    ∙ ap (after_name (take at bs)) (name-more b rest e)
    ∙ ap (λ (xs : List ℕ). (xs, (name_at rest).1)) (sym (append_assoc (take at bs) (b ∷ []) (name_at rest).0))
    ∙ ap (λ x. after_name x (name_at rest)) (sym (take_more bs at 0 h))

-- ---- the token of a name

second : (a : Bool) {b : Bool} → (a && b) ≡ true → b ≡ true
second true e = e
second false e = absurd (cc)

name-token-some : (make : List ℕ → Token) (depth : ℕ) (name rest : List ℕ) → 0 < length name → ends_name depth rest ≡ true
    → name_token make depth (name, rest) ≡ Some (record { token = make name; rest = rest; depth = depth })
name-token-some make depth [] rest some e = absurd (omega arith)
name-token-some make depth (b ∷ bs) rest some e = rw e refl

-- the token of so many bytes that are all of a name, at least one, if it may end there
pub token-named : (make : List ℕ → Token) (depth : ℕ) (bs : List ℕ) (n : ℕ) → name_at bs ≡ (take n bs, drop n bs) → n ≤ length bs → (nat_lt 0 n && ends_name depth (drop n bs)) ≡ true
    → name_token make depth (name_at bs) ≡ Some (record { token = make (take n bs); rest = drop n bs; depth = depth })
token-named make depth bs n read within whole =
    let some : 0 < length (take n bs) = grind (arith, nat_tests, length-take n bs) in
    let ends : ends_name depth (drop n bs) ≡ true = second (nat_lt 0 n) whole in
    ap (name_token make depth) read ∙ name-token-some make depth (take n bs) (drop n bs) some ends

-- ---- what a name takes of the line

-- the name ends at a character's end
pub name-boundary : (bs : List ℕ) (n : ℕ) → IsUtf8 bs → 0 < n → n ≤ length bs → ((k : ℕ) → k < n → get_or bs k 0 < 128) → IsCharBoundary bs n
name-boundary bs n u some within ascii =
    let same : n - 1 + 1 ≡ n = omega arith in
    subst (IsCharBoundary bs) same (IsCharBoundary-after_ascii bs (n - 1) u (omega arith) (ascii (n - 1) (omega arith)))

pub takes-name : (s bs : List ℕ) (n : ℕ) → bs ≡ drop 1 s → 0 < length s → n ≤ length bs → IsCharBoundary bs n → Takes s (n + 1)
takes-name s bs n e some within at =
    let same : 1 + n ≡ n + 1 = omega arith in
    record {
      some = omega arith;
      within = omega (arith, ap length e, length-drop 1 s);
      boundary = subst (IsCharBoundary s) same (IsCharBoundary-from_rest s 1 n (omega arith) (subst (λ xs. IsCharBoundary xs n) e at));
    }

pub rest-behind : (s bs : List ℕ) (n : ℕ) → bs ≡ drop 1 s → drop n bs ≡ drop (n + 1) s
rest-behind s bs n e =
    let same : 1 + n ≡ n + 1 = omega arith in
    ap (drop n) e ∙ drop-drop n 1 s ∙ ap (λ k. drop k s) same
