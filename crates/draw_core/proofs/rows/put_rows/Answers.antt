use Rattle.std.proofs.Common.{◌≡◌, ◌<◌, ◌*◌, ℕ, ℤ, List, ◌++◌, length, take, sym, ap, ◌∙◌, subst, arith}
use Rattle.std.proofs.lemmas.List.{append-nil}
use Rattle.rand_pcg.specs.Lcg.{Lcg}
use Rattle.lists_core.proofs.PutsFacts.{puts-failed}
use Rattle.problem_core.specs.Problem.{ProblemValue}
use Rattle.sorting_rule.specs.Model.{Model, category}
use Rattle.model_core.specs.Model.{rule_of}
use Rattle.draw_core.specs.DrawnTable.{drawn_record, row_grades}
use Rattle.draw_core.specs.Words.{seeded, words_of}
use Rattle.draw_core.proofs.RowFacts.{each-cut, each-more, record-made, row-after, row-drawn, row-start}
use Rattle.draw_core.proofs.rows.put_rows.Goals as goal

pub loop-row-init : goal.loop-row-init
loop-row-init c = record {
  text = sym (append-nil c.args.out.now.items);
  generator = row-start (seeded c.args.seed) c.seeded-generator.result (length c.args.problem.now.criteria) c.seeded-generator.ensures;
}

-- no row more
pub returns-in_err-category : goal.returns-in_err-category
returns-in_err-category c =
    let problem : ProblemValue = c.args.problem.now in
    let f : ℕ → List ℕ = drawn_record problem (rule_of problem c.args.model.now) (words_of (seeded c.args.seed) (c.args.rows * length problem.criteria)) in
    let out : List ℕ = c.loop-row.out.items in
    let lt : c.loop-row.row < c.args.rows = omega arith in
    puts-failed _ _ _ c.from_residual.result c.from_residual.ensures.0
    (each-cut f c.args.rows c.loop-row.row c.args.out.now.items out out c.loop-row.invariant.text lt (0, sym (append-nil out)))

-- a row that was cut short
pub returns-in_err-put_record : goal.returns-in_err-put_record
returns-in_err-put_record c =
    let problem : ProblemValue = c.args.problem.now in
    let n : ℕ = length problem.criteria in
    let rule : Model = rule_of problem c.args.model.now in
    let g : Lcg = seeded c.args.seed in
    let words : List ℕ = words_of g (c.args.rows * n) in
    let k : ℕ = c.loop-row.row in
    let out : List ℕ = c.loop-row.out.items in
    let lt : k < c.args.rows = omega arith in
    let grades : List ℤ = c.as_slice.result.now in
    let is : grades ≡ row_grades problem words k =
    c.as_slice.ensures.value ∙ row-drawn problem g c.loop-row.generator c.args.rows k c.draw_row.new.grades.items lt c.loop-row.invariant.generator c.in_ok-category.ensures.grades in
    let sorted : c.in_ok-category.category ≡ category rule grades = c.in_ok-category.ensures.category ∙ ap (category rule) (sym c.as_slice.ensures.value) in
    puts-failed _ _ _ c.from_residual-in_err-put_record.result c.from_residual-in_err-put_record.ensures.0
    (each-cut (drawn_record problem rule words) c.args.rows k c.args.out.now.items out c.put_record.new.out.items c.loop-row.invariant.text lt
    (subst (λ t. (j : ℕ) × (c.put_record.new.out.items ≡ out ++ take j t)) (record-made problem rule words k grades c.in_ok-category.category is sorted) c.in_err-put_record.ensures))

pub loop-row-preserved : goal.loop-row-preserved
loop-row-preserved c =
    let problem : ProblemValue = c.args.problem.now in
    let n : ℕ = length problem.criteria in
    let rule : Model = rule_of problem c.args.model.now in
    let g : Lcg = seeded c.args.seed in
    let words : List ℕ = words_of g (c.args.rows * n) in
    let k : ℕ = c.loop-row.row in
    let out : List ℕ = c.loop-row.out.items in
    let lt : k < c.args.rows = omega arith in
    let grades : List ℤ = c.as_slice.result.now in
    let is : grades ≡ row_grades problem words k =
    c.as_slice.ensures.value ∙ row-drawn problem g c.loop-row.generator c.args.rows k c.draw_row.new.grades.items lt c.loop-row.invariant.generator c.in_ok-category.ensures.grades in
    let sorted : c.in_ok-category.category ≡ category rule grades = c.in_ok-category.ensures.category ∙ ap (category rule) (sym c.as_slice.ensures.value) in
    record {
      text = each-more (drawn_record problem rule words) k c.args.out.now.items out c.put_record.new.out.items c.loop-row.invariant.text
          (c.in_ok-put_record.ensures ∙ ap (λ t. out ++ t) (record-made problem rule words k grades c.in_ok-category.category is sorted));
      generator = row-after g c.loop-row.generator k n c.draw_row.new.generator c.loop-row.invariant.generator c.in_ok-category.ensures.after;
    }
