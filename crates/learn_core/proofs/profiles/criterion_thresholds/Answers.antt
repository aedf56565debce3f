use Rattle.std.proofs.Common.{◌≡◌, ◌+◌, ◌*◌, ℕ, ℤ, Option, List, [], ◌∷◌, ◌++◌, get_or, sym, ap, ◌∙◌, add-one}
use Rattle.encoding_rules.specs.Each.{listed}
use Rattle.encoding_rules.specs.Rebuilt.{first_passing}
use Rattle.search_core.specs.Values.{value_at}
use Rattle.learn_core.specs.Numbers.{threshold_in}
use Rattle.learn_core.proofs.profiles.criterion_thresholds.Goals as goal

pub loop-b-preserved : goal.loop-b-preserved
loop-b-preserved c =
    let g : ℕ → Option ℤ = threshold_in c.args.values.now c.args.ranks.now.grades c.args.first c.args.i in
    let b : ℕ = c.loop-b.b in
    let ys : List ℤ = get_or c.args.ranks.now.grades c.args.i [] in
    let is : c.threshold.result ≡ g b = c.threshold.ensures ∙ ap (λ m. first_passing (λ k. value_at c.args.values.now (c.args.first + b * m + k)) 0 ys) c.count.ensures in
    c.in_ok-push.ensures.items ∙ ap (λ xs. xs ++ c.threshold.result ∷ []) c.loop-b.invariant ∙ ap (λ x. listed g b ++ x ∷ []) is ∙ ap (listed g) (sym (add-one b))
