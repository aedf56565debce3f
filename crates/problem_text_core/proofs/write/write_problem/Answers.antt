use Rattle.std.proofs.Common.{List, ℕ, [], ◌++◌, codes}
use Rattle.std.specs.Prelude.{Result, Ok, Err, OnOk}
use Rattle.lists_core.proofs.PutsFacts.{puts-then}
use Rattle.written_core.proofs.PutLemmas.{puts-as, first-cut}
use Rattle.written_core.specs.Parts.{row}
use Rattle.problem_text_core.specs.Parts.{head_text, criteria_text, categories_text}
use Rattle.problem_text_core.proofs.PartTexts.{problem_text-parts}
use Rattle.problem_text_core.proofs.ProblemText.{problem-reads-back}
use Rattle.problem_text_core.proofs.write.write_problem.Goals as goal

-- the row of the key of the categories
abbrev key : List ℕ
key = row (codes "ordered_categories:") []

pub returns-in_err-put_text-clause-text : goal.returns-in_err-put_text-clause-text
returns-in_err-put_text-clause-text c =
    let r = c.from_residual.result in
    let more = criteria_text c.args.problem.now.criteria ++ (key ++ categories_text c.args.problem.now.categories) in
    puts-as _ _ r _ _ (problem_text-parts c.args.problem.now) (first-cut _ _ head_text more r c.from_residual.ensures.0 c.in_err-put_text.ensures)

pub returns-in_err-put_criteria-clause-text : goal.returns-in_err-put_criteria-clause-text
returns-in_err-put_criteria-clause-text c =
    let r = c.from_residual-in_err-put_criteria.result in
    let criteria = criteria_text c.args.problem.now.criteria in
    let more = key ++ categories_text c.args.problem.now.categories in
    puts-as _ _ r _ _ (problem_text-parts c.args.problem.now)
    (puts-then _ _ head_text c.in_ok-put_text.ensures _ (criteria ++ more) r (first-cut _ _ criteria more r c.from_residual-in_err-put_criteria.ensures.0 c.in_err-put_criteria.ensures.text))

pub returns-in_err-put_text-2-clause-text : goal.returns-in_err-put_text-2-clause-text
returns-in_err-put_text-2-clause-text c =
    let r = c.from_residual-in_err-put_text-2.result in
    let criteria = criteria_text c.args.problem.now.criteria in
    let categories = categories_text c.args.problem.now.categories in
    puts-as _ _ r _ _ (problem_text-parts c.args.problem.now)
    (puts-then _ _ head_text c.in_ok-put_text.ensures _ (criteria ++ (key ++ categories)) r
    (puts-then _ _ criteria c.in_ok-put_criteria.ensures.text _ (key ++ categories) r
    (first-cut _ _ key categories r c.from_residual-in_err-put_text-2.ensures.0 c.in_err-put_text-2.ensures)))

pub returns-clause-text : goal.returns-clause-text
returns-clause-text c =
    let r = c.put_categories.result in
    let criteria = criteria_text c.args.problem.now.criteria in
    let categories = categories_text c.args.problem.now.categories in
    puts-as _ _ r _ _ (problem_text-parts c.args.problem.now)
    (puts-then _ _ head_text c.in_ok-put_text.ensures _ (criteria ++ (key ++ categories)) r
    (puts-then _ _ criteria c.in_ok-put_criteria.ensures.text _ (key ++ categories) r
    (puts-then _ _ key c.in_ok-put_text-2.ensures _ categories r c.put_categories.ensures.text)))

pub returns-clause-reads : goal.returns-clause-reads
returns-clause-reads c =
    by_result c.put_categories.result c.put_categories.ensures.kept (λ names. problem-reads-back c.args.problem.now c.put_criteria.ensures.facts (record { criteria = c.in_ok-put_criteria.ensures.kept; categories = names }))
  where
    by_result : {T E : Type 0} {P Q : Type 0} (r : Result T E) → OnOk r P → (P → Q) → OnOk r Q
    by_result (Ok x) p f = f p
    by_result (Err e) p f = tt
