use Rattle.std.proofs.Common.{◌++◌, codes}
use Rattle.fixed_core.specs.Spelling.{spelling}
use Rattle.lists_core.proofs.PutsFacts.{puts-then}
use Rattle.written_core.proofs.PutLemmas.{first-cut}
use Rattle.problem_text_core.proofs.put.put_number_line.Goals as goal

pub returns-in_err-put_text-clause-text : goal.returns-in_err-put_text-clause-text
returns-in_err-put_text-clause-text c = first-cut _ _ c.args.key.now (spelling c.args.number ++ codes "\n") c.from_residual.result c.from_residual.ensures.0 c.in_err-put_text.ensures

pub returns-in_err-put_fixed-clause-text : goal.returns-in_err-put_fixed-clause-text
returns-in_err-put_fixed-clause-text c =
    let digits = spelling c.args.number in
    let r = c.from_residual-in_err-put_fixed.result in
    puts-then _ _ c.args.key.now c.in_ok-put_text.ensures _ (digits ++ codes "\n") r (first-cut _ _ digits (codes "\n") r c.from_residual-in_err-put_fixed.ensures.0 c.in_err-put_fixed.ensures.text)

pub returns-clause-text : goal.returns-clause-text
returns-clause-text c =
    let digits = spelling c.args.number in
    let r = c.put_text-2.result in
    puts-then _ _ c.args.key.now c.in_ok-put_text.ensures _ (digits ++ codes "\n") r (puts-then _ _ digits c.in_ok-put_fixed.ensures.text _ (codes "\n") r c.put_text-2.ensures)
