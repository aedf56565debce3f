use Rattle.std.proofs.Common.{◌≡◌, ℕ, ◌<◌, length, sym, ap, ◌∙◌, subst, arith}
use Rattle.std.specs.List.{All}
use Rattle.std.proofs.Math.Nat.{mod-lt}
use Rattle.draw_core.specs.Choice.{choice_count, scale_at}
use Rattle.model_core.specs.Model.{boundaries_of}
use Rattle.draw_core.specs.DrawnModel.{drawn_choice}
use Rattle.draw_core.proofs.OrderFacts.{all-rising, length-rising}
use Rattle.draw_core.proofs.model.drawn_choices.Goals as goal

pub returns-clause-below : goal.returns-clause-below
returns-clause-below c =
    let count : ℕ = choice_count (scale_at c.args.problem.now.criteria c.args.i) in
    let some : 0 < count = subst (λ s. 0 < choice_count s) c.scale_at.ensures.scale (subst (λ n. 0 < n) c.choice_count-count.ensures.count c.choice_count-count.ensures.some) in
    subst (All (λ x. x < count)) (sym c.loop-h.invariant)
    (all-rising (λ x. x < count) (drawn_choice c.args.problem.now c.args.words.now c.args.i) c.loop-h.h (λ k. mod-lt _ some))

pub returns-clause-count : goal.returns-clause-count
returns-clause-count c =
    let many : c.loop-h.h ≡ boundaries_of c.args.problem.now = omega arith in
    ap length c.loop-h.invariant ∙ length-rising (drawn_choice c.args.problem.now c.args.words.now c.args.i) c.loop-h.h ∙ many
