use Rattle.std.proofs.Common.{List, ℕ, ◌++◌, ap, sym}
use Rattle.lists_core.proofs.PutsFacts.{puts-then}
use Rattle.written_core.proofs.PutLemmas.{puts-as, first-cut}
use Rattle.problem_text_core.specs.Parts.{name_row, scale_text}
use Rattle.problem_text_core.proofs.criteria.put_criterion.Goals as goal

pub returns-in_err-put_name_line-clause-text : goal.returns-in_err-put_name_line-clause-text
returns-in_err-put_name_line-clause-text c =
    let r = c.from_residual.result in
    let more = scale_text c.args.criterion.now.scale in
    puts-as _ _ r _ _ (ap (λ (t : List ℕ). name_row t ++ more) (sym c.as_str.ensures))
    (first-cut _ _ (name_row c.as_str.result.now) more r c.from_residual.ensures.0 c.in_err-put_name_line.ensures.text)

pub returns-clause-text : goal.returns-clause-text
returns-clause-text c =
    let r = c.put_scale.result in
    let more = scale_text c.args.criterion.now.scale in
    puts-as _ _ r _ _ (ap (λ (t : List ℕ). name_row t ++ more) (sym c.as_str.ensures))
    (puts-then _ _ (name_row c.as_str.result.now) c.in_ok-put_name_line.ensures.text _ more r c.put_scale.ensures.text)
