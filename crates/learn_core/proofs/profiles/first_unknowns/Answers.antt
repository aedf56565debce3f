use Rattle.std.proofs.Common.{◌≡◌, ◌*◌, ◌≤◌, ℕ, [], ◌∷◌, ◌++◌, sym, ap, ◌∙◌, subst, arith, add-one}
use Rattle.std.specs.List.{All}
use Rattle.std.proofs.lemmas.List.Elements.{All-push}
use Rattle.encoding_rules.specs.Each.{listed}
use Rattle.accepted_core.specs.Sizes.{count_in}
use Rattle.learn_core.specs.Numbers.{first_in, IsFirst}
use Rattle.learn_core.proofs.ThresholdFacts.{small_product, scaled_more}
use Rattle.learn_core.proofs.profiles.first_unknowns.Goals as goal

pub loop-i-preserved : goal.loop-i-preserved
loop-i-preserved c =
    let g : ℕ → ℕ = first_in c.args.boundaries c.args.ranks.now.grades in
    let i : ℕ = c.loop-i.i in
    let at : c.loop-i.first ≡ g i = c.loop-i.invariant.1 in
    let bound = c.loop-i.invariant.3 in
    let small : c.args.boundaries * c.count.result ≤ 38654705664 = small_product c.args.boundaries c.count.result c.requires.boundaries (omega arith) in
    let more = scaled_more c.args.boundaries (count_in c.args.ranks.now.grades) i in
    let count : c.args.boundaries * c.count.result ≡ c.args.boundaries * count_in c.args.ranks.now.grades i = ap (λ m. c.args.boundaries * m) c.count.ensures in
    let fits : IsFirst c.loop-i.first = (omega (arith, at), omega (arith, bound)) in (
      c.in_ok-push.ensures.items ∙ ap (λ ys. ys ++ c.loop-i.first ∷ []) c.loop-i.invariant.0 ∙ ap (λ x. listed g i ++ x ∷ []) at ∙ ap (listed g) (sym (add-one i)),
      omega (arith, at, more, count),
      subst (All IsFirst) (sym c.in_ok-push.ensures.items) (All-push IsFirst c.loop-i.firsts.items c.loop-i.first c.loop-i.invariant.2 fits),
      omega (arith, bound, small),
    )
