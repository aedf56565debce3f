use Rattle.std.proofs.Common.{◌≡◌, ◌<◌, ◌+◌, ◌%◌, ℕ, ℤ, List, [], length, take, refl, sym, ap, ◌∙◌, subst, add-one, arith}
use Rattle.std.specs.List.{AllZip}
use Rattle.rand_pcg.specs.Lcg.{Lcg}
use Rattle.problem_core.specs.Grade.{IsGrade}
use Rattle.problem_core.specs.declared.criterion.Criterion.{Criterion}
use Rattle.problem_core.specs.declared.criterion.Scale.{Scale}
use Rattle.draw_core.specs.Choice.{chosen, scale_at}
use Rattle.draw_core.specs.DrawnTable.{drawn_grade}
use Rattle.draw_core.specs.Words.{after, word}
use Rattle.draw_core.proofs.ListedFacts.{listed-push, zip-more}
use Rattle.draw_core.proofs.WordFacts.{word-step}
use Rattle.draw_core.proofs.rows.draw_grades.Goals as goal

pub loop-i-init : goal.loop-i-init
unfolding after
loop-i-init c = record { grades = c.clear.ensures.items; belong = subst (AllZip (λ (criterion : Criterion) (grade : ℤ). IsGrade criterion.scale grade) []) (sym c.clear.ensures.items) tt; generator = refl }

pub loop-i-preserved : goal.loop-i-preserved
loop-i-preserved c =
    let g : Lcg = c.args.generator.now in
    let i : ℕ = c.loop-i.i in
    let criteria : List Criterion = c.args.problem.now.criteria in
    let scale : Scale = scale_at criteria i in
    let f : ℕ → ℤ = λ k. drawn_grade (scale_at criteria k) (word g k) in
    let R : Criterion → ℤ → Type 0 = λ criterion grade. IsGrade criterion.scale grade in
    let lt : i < length criteria = omega arith in
    let (drawn, next) = word-step g c.loop-i.generator c.next_word.new.self i c.next_word.result c.loop-i.invariant.generator c.next_word.ensures in
    let here : c.chosen.result ≡ f i =
    c.chosen.ensures.chosen ∙ ap (λ n. chosen c.scale_at-scale.result.now (c.next_word.result % n)) c.choice_count.ensures.count
    ∙ ap (λ s. drawn_grade s c.next_word.result) c.scale_at-scale.ensures.scale ∙ ap (drawn_grade scale) drawn in
    record {
      grades = listed-push f i c.loop-i.grades.items c.push.new.self.items c.chosen.result c.in_ok-push.ensures.items c.loop-i.invariant.grades here;
      belong = subst (AllZip R (take (i + 1) criteria)) (sym c.in_ok-push.ensures.items)
          (zip-more R criteria c.loop-i.grades.items i c.chosen.result lt c.loop-i.invariant.belong (subst (λ s. IsGrade s c.chosen.result) c.scale_at-scale.ensures.scale c.chosen.ensures.grade));
      generator = next ∙ ap (λ n. after n g) (sym (add-one i));
    }
