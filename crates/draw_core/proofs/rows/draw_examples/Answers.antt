use Rattle.std.proofs.Common.{◌≡◌, ◌<◌, ◌*◌, ℕ, ℤ, List, [], length, sym, ap, ◌∙◌, subst, arith}
use Rattle.std.proofs.lemmas.List.Elements.{All-nil, All-weaker}
use Rattle.rand_pcg.specs.Lcg.{Lcg}
use Rattle.problem_core.specs.Problem.{ProblemValue}
use Rattle.sorting_rule.specs.Examples.{Example, Restores}
use Rattle.sorting_rule.specs.Model.{Model, category}
use Rattle.model_core.specs.Model.{rule_of}
use Rattle.table_core.specs.Examples.{BelongTo}
use Rattle.table_core.proofs.BelongFacts.{belong-lengths}
use Rattle.encoding_rules.specs.Each.{listed}
use Rattle.encoding_rules.proofs.EachFacts.{length-listed}
use Rattle.draw_core.specs.DrawnTable.{drawn_example, row_grades, AreGrades}
use Rattle.draw_core.specs.Words.{seeded, words_of}
use Rattle.draw_core.proofs.ListedFacts.{listed-push}
use Rattle.draw_core.proofs.RowFacts.{drawn-push, drawn-restored, example-made, examples-drawn, row-after, row-drawn, row-start, grades-long}
use Rattle.draw_core.proofs.rows.draw_examples.Goals as goal

pub loop-init : goal.loop-init
loop-init c =
    let none : BelongTo c.args.problem.now [] = record {
      grades = All-nil (λ (e : Example). AreGrades c.args.problem.now e.grades);
      categories = All-nil (λ (e : Example). e.category < length c.args.problem.now.categories);
    } in
    record {
      examples = c.empty-examples.ensures;
      belong = subst (BelongTo c.args.problem.now) (sym c.empty-examples.ensures) none;
      generator = row-start (seeded c.args.seed) c.seeded-generator.result (length c.args.problem.now.criteria) c.seeded-generator.ensures;
    }

pub push-requires-clause-room : goal.push-requires-clause-room
push-requires-clause-room c =
    let problem : ProblemValue = c.args.problem.now in
    let f : ℕ → Example = drawn_example problem (rule_of problem c.args.model.now) (words_of (seeded c.args.seed) (c.args.rows * length problem.criteria)) in
    omega (arith, ap length c.loop.invariant.examples, length-listed f c.loop.counter, c.requires.few)

pub push-requires-clause-same : goal.push-requires-clause-same
push-requires-clause-same c =
    let problem : ProblemValue = c.args.problem.now in
    let n : ℕ = length problem.criteria in
    let size : length c.as_slice.result.now ≡ n =
    ap length c.as_slice.ensures.value ∙ grades-long problem c.draw_row.new.grades.items c.in_ok-category.ensures.belong in
    All-weaker (λ (e : Example). length e.grades ≡ n) (λ (e : Example). length e.grades ≡ length c.as_slice.result.now) (λ e same. same ∙ sym size) c.loop.examples
    (belong-lengths problem c.loop.examples c.loop.invariant.belong)

pub loop-preserved : goal.loop-preserved
loop-preserved c =
    let problem : ProblemValue = c.args.problem.now in
    let n : ℕ = length problem.criteria in
    let rule : Model = rule_of problem c.args.model.now in
    let g : Lcg = seeded c.args.seed in
    let words : List ℕ = words_of g (c.args.rows * n) in
    let k : ℕ = c.loop.counter in
    let lt : k < c.args.rows = omega arith in
    let grades : List ℤ = c.as_slice.result.now in
    let e : Example = record { grades = grades; category = c.in_ok-category.category } in
    let is : grades ≡ row_grades problem words k =
    c.as_slice.ensures.value ∙ row-drawn problem g c.loop.generator c.args.rows k c.draw_row.new.grades.items lt c.loop.invariant.generator c.in_ok-category.ensures.grades in
    let sorted : c.in_ok-category.category ≡ category rule grades = c.in_ok-category.ensures.category ∙ ap (category rule) (sym c.as_slice.ensures.value) in
    record {
      examples = listed-push (drawn_example problem rule words) k c.loop.examples c.push.new.self e c.in_ok-push.ensures.ok c.loop.invariant.examples (example-made problem rule words k grades c.in_ok-category.category is sorted);
      belong = subst (BelongTo problem) (sym c.in_ok-push.ensures.ok)
          (drawn-push problem rule c.loop.examples e c.loop.invariant.belong
          (subst (AreGrades problem) (sym c.as_slice.ensures.value) c.in_ok-category.ensures.belong) c.in_ok-category.ensures.below);
      generator = row-after g c.loop.generator k n c.draw_row.new.generator c.loop.invariant.generator c.in_ok-category.ensures.after;
    }

pub returns-clause-drawn : goal.returns-clause-drawn
returns-clause-drawn c =
    let problem : ProblemValue = c.args.problem.now in
    let rule : Model = rule_of problem c.args.model.now in
    let words : List ℕ = words_of (seeded c.args.seed) (c.args.rows * length problem.criteria) in
    let all : c.loop.counter ≡ c.args.rows = omega arith in
    c.loop.invariant.examples ∙ ap (listed (drawn_example problem rule words)) all ∙ examples-drawn problem rule c.args.rows words

pub returns-clause-restored : goal.returns-clause-restored
returns-clause-restored c =
    let problem : ProblemValue = c.args.problem.now in
    let rule : Model = rule_of problem c.args.model.now in
    let words : List ℕ = words_of (seeded c.args.seed) (c.args.rows * length problem.criteria) in
    subst (Restores rule) (sym c.loop.invariant.examples) (drawn-restored problem rule c.loop.counter words)
