use Rattle.std.proofs.Common.{◌≡◌, ◌+◌, ◌*◌, ℕ, [], ◌∷◌, ◌++◌, length, get_or, sym, ap, ◌∙◌, arith, add-one}
use Rattle.encoding_rules.specs.Each.{listed, total}
use Rattle.accepted_core.proofs.NumbersFacts.{scaled_before, scaled_more}
use Rattle.accepted_core.proofs.numbers.firsts_of.Goals as goal

pub overflow_mul-first : goal.overflow_mul-first
overflow_mul-first c = let s = scaled_before c.args.boundaries (λ k. get_or c.args.counts.now k 0) (length c.args.counts.now) c.loop-i.i c.loop-i-test.true in omega (arith, s, c.requires)

pub overflow_add-first : goal.overflow_add-first
overflow_add-first c =
    let s = scaled_before c.args.boundaries (λ k. get_or c.args.counts.now k 0) (length c.args.counts.now) c.loop-i.i c.loop-i-test.true in
    let at = c.loop-i.invariant.1 in
    omega (arith, s, at, c.requires)

pub loop-i-preserved : goal.loop-i-preserved
loop-i-preserved c =
    let f : ℕ → ℕ = λ k. get_or c.args.counts.now k 0 in
    let g : ℕ → ℕ = λ i. 1 + c.args.boundaries * total f i in
    let at : c.loop-i.first ≡ 1 + c.args.boundaries * total f c.loop-i.i = c.loop-i.invariant.1 in
    let more = scaled_more c.args.boundaries f c.loop-i.i in (
      c.in_ok-push.ensures.items ∙ ap (λ ys. ys ++ c.loop-i.first ∷ []) c.loop-i.invariant.0 ∙ ap (λ x. listed g c.loop-i.i ++ x ∷ []) at ∙ ap (listed g) (sym (add-one c.loop-i.i)),
      omega (arith, at, more),
    )
