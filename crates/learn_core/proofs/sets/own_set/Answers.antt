use Rattle.std.proofs.Common.{◌≡◌, ◌+◌, ◌-◌, ◌^◌, ◌<◌, ℕ, Bool, false, length, drop, sym, ap, ◌∙◌, subst, arith}
use Rattle.std.proofs.lemmas.List.{at_drop_all}
use Rattle.sorting_rule.specs.Coalition.{mask_of}
use Rattle.sorting_rule.proofs.MaskFacts.{mask_below}
use Rattle.encoding_rules.specs.Each.{listed}
use Rattle.encoding_rules.proofs.EachFacts.{length-listed, listed_at}
use Rattle.learn_core.specs.Numbers.{flag_in}
use Rattle.learn_core.proofs.ThresholdFacts.{mask_small, mask_more, flag_read}
use Rattle.learn_core.proofs.sets.own_set.Goals as goal

pub loop-i-init : goal.loop-i-init
loop-i-init c =
    let f : ℕ → Bool = flag_in c.args.values.now c.args.firsts.now c.args.ranks.now c.args.place c.args.row in
    let n : ℕ = length c.args.firsts.now in
    let size = length-listed f n in
    sym (at_drop_all mask_of (listed f n) n (omega (arith, size)))

pub with_first-set-requires : goal.with_first-set-requires
with_first-set-requires c =
    let f : ℕ → Bool = flag_in c.args.values.now c.args.firsts.now c.args.ranks.now c.args.place c.args.row in
    let n : ℕ = length c.args.firsts.now in
    let size = length-listed f n in
    let few = c.requires.fit.few in
    let small = mask_small (listed f n) c.loop-i.i (omega (arith, size, few)) in
    omega (arith, small, c.loop-i.invariant)

pub loop-i-preserved : goal.loop-i-preserved
loop-i-preserved c =
    let f : ℕ → Bool = flag_in c.args.values.now c.args.firsts.now c.args.ranks.now c.args.place c.args.row in
    let n : ℕ = length c.args.firsts.now in
    let i : ℕ = c.loop-i.i - 1 in
    let lt : i < n = omega arith in
    let size = length-listed f n in
    let next : i + 1 ≡ c.loop-i.i = omega arith in
    let flag = flag_read c.args.values.now c.args.firsts.now c.args.ranks.now c.args.place c.args.row i c.count-count.result c.rank.result c.value_at.result c.count-count.ensures c.rank.ensures c.value_at.ensures in
    mask_more (listed f n) i c.loop-i.set c.with_first-set.result c.value_at.result (omega (arith, lt, size)) (flag ∙ sym (listed_at f n i false lt))
    (c.loop-i.invariant ∙ ap (λ k. mask_of (drop k (listed f n))) (sym next)) c.with_first-set.ensures

pub returns-clause-below : goal.returns-clause-below
returns-clause-below c =
    let f : ℕ → Bool = flag_in c.args.values.now c.args.firsts.now c.args.ranks.now c.args.place c.args.row in
    let n : ℕ = length c.args.firsts.now in
    let none : c.loop-i.i ≡ 0 = omega arith in
    let is : c.loop-i.set ≡ mask_of (listed f n) = c.loop-i.invariant ∙ ap (λ k. mask_of (drop k (listed f n))) none in
    subst (λ s. s < 2 ^ n) (sym is) (subst (λ k. mask_of (listed f n) < 2 ^ k) (length-listed f n) (mask_below (listed f n)))
