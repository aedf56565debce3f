-- The words of a generator, one by one.
use Rattle.std.proofs.Common.{◌≡◌, ℕ, zero, suc, ◌+◌, ap, ◌∙◌, arith}
use Rattle.rand_pcg.specs.Lcg.{Lcg}
use Rattle.rand_pcg.specs.Pcg.{pcg32}
use Rattle.draw_core.specs.Words.{after, word}

-- one word more
pub word-step : (g now next : Lcg) (k w : ℕ) → now ≡ after k g → (w, next) ≡ pcg32 now → (w ≡ word g k) × (next ≡ after (suc k) g)
unfolding after
word-step g now next k w is step =
    let both : (w, next) ≡ pcg32 (after k g) = step ∙ ap pcg32 is in
    (ap (λ (p : ℕ × Lcg). p.0) both, ap (λ (p : ℕ × Lcg). p.1) both)

-- some words and then others
pub after-add : (g : Lcg) (a b : ℕ) → after b (after a g) ≡ after (a + b) g
unfolding after
after-add g a zero = (let e : a ≡ a + 0 = omega arith in ap (λ n. after n g) e)
after-add g a (suc b) =
    let e : suc (a + b) ≡ a + suc b = omega arith in
    ap (λ (h : Lcg). (pcg32 h).1) (after-add g a b) ∙ ap (λ n. after n g) e
