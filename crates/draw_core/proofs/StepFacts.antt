-- Parts of a range, in whole gaps.
use Rattle.std.proofs.Common.{◌≡◌, ℕ, ◌+◌, ◌*◌, ◌/◌, ◌%◌, ◌≤◌, sym, ap, ◌∙◌, subst, arith}
use Rattle.std.proofs.Math.Nat.{mul_assoc, mul_comm, add-mul, mul-add-div, div-add-mod, mul-div-le, mul-le-mul_left, div-le_of_le-mul}

-- thousandths of a number are those of its thousands and of the rest
thousandths : (s c : ℕ) → s / 1000 * c + s % 1000 * c / 1000 ≡ s * c / 1000
thousandths s c =
    let q = s / 1000 in
    let r = s % 1000 in
    let same : 1000 * (q * c) + r * c ≡ s * c = ap (λ x. x + r * c) (sym (mul_assoc 1000 q c)) ∙ sym (add-mul (1000 * q) r c) ∙ ap (λ x. x * c) (div-add-mod s 1000) in
    sym (mul-add-div (omega arith) (q * c) (r * c)) ∙ ap (λ x. x / 1000) same

-- a part is no more than the range
pub part-within : (range gap c : ℕ) → c ≤ 1000 → gap * (range / gap * c / 1000) ≤ range
part-within range gap c few =
    let s = range / gap in
    let most : s * c ≤ 1000 * s = subst (λ x. s * c ≤ x) (mul_comm s 1000) (mul-le-mul_left s few) in
    let inner : s * c / 1000 ≤ s = div-le_of_le-mul 1000 most in
    let outer : gap * (s * c / 1000) ≤ gap * s = mul-le-mul_left gap inner in
    let all : gap * s ≤ range = mul-div-le range gap in
    omega (arith, outer, all)

-- a part as the code computes it
pub part-made : (range gap c d : ℕ) → d ≡ c → gap * (range / gap / 1000 * d + range / gap % 1000 * d / 1000) ≡ gap * (range / gap * c / 1000)
part-made range gap c d same =
    ap (λ x. gap * (range / gap / 1000 * x + range / gap % 1000 * x / 1000)) same ∙ ap (λ x. gap * x) (thousandths (range / gap) c)

-- more thousandths are no smaller part
pub part-more : (range gap c d : ℕ) → c ≤ d → gap * (range / gap * c / 1000) ≤ gap * (range / gap * d / 1000)
part-more range gap c d le = mul-le-mul_left gap (div-mono (range / gap * c) (range / gap * d) (mul-le-mul_left (range / gap) le))
  where
    div-mono : (a b : ℕ) → a ≤ b → a / 1000 ≤ b / 1000
    div-mono a b le = omega arith
