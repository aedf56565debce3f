-- How many digits a number has, by the powers of ten around it.
use Rattle.std.proofs.Common.{◌≡◌, ℕ, zero, suc, ◌+◌, ◌/◌, ◌%◌, ◌^◌, ◌<◌, ◌≤◌, [], ◌∷◌, length, ap, ◌∙◌, add-one, arith, length-append}
use Rattle.std.specs.Prelude.{decimal}
use Rattle.std.proofs.lemmas.Fmt.{decimal_digit, decimal_step}

pub count_exact : (k n : ℕ) → 10 ^ k ≤ n → n < 10 ^ suc k → n < 2 ^ 64 → length (decimal n) ≡ suc k
count_exact zero n low high fits = ap length (decimal_digit n (omega arith))
count_exact (suc k) n low high fits =
    let least : 10 ^ k ≤ n / 10 = omega arith in
    let most : n / 10 < 10 ^ suc k = omega arith in
    let ten : 10 ≤ n = omega arith in
    ap length (decimal_step n ten fits) ∙ length-append (decimal (n / 10)) ((48 + n % 10) ∷ []) ∙ ap (λ m. m + 1) (count_exact k (n / 10) least most (omega arith)) ∙ add-one (suc k)
