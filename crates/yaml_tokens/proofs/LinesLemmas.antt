-- From a text to its lines.
use Rattle.std.proofs.Common.{◌≡◌, ℕ, true, List, [], ◌∷◌, arith}
use Rattle.std.specs.Str.{IsUtf8, IsCharBoundary}
use Rattle.std.proofs.lemmas.Str.{IsCharBoundary-past_char}
use Rattle.std.proofs.lemmas.Bool.Decides.{nat_tests}
use Rattle.yaml_tokens.specs.Tokens.{has_mark}

-- a character begins after a byte order mark
pub mark-boundary : (s : List ℕ) → IsUtf8 s → has_mark s ≡ true → IsCharBoundary s 3
unfolding lib.Utf8.encode
mark-boundary [] u h = absurd (cc)
mark-boundary (a ∷ []) u h = absurd (cc)
mark-boundary (a ∷ b ∷ []) u h = absurd (cc)
mark-boundary (a ∷ b ∷ c ∷ bs) u h =
    let ea : a ≡ 239 = grind (arith, nat_tests) in
    let eb : b ≡ 187 = grind (arith, nat_tests) in
    let ec : c ≡ 191 = grind (arith, nat_tests) in
    IsCharBoundary-past_char (a ∷ b ∷ c ∷ bs) bs 0 65279 (omega arith) u (λ i. ea i ∷ eb i ∷ ec i ∷ bs)
