use Rattle.std.proofs.Common.{◌++◌, codes}
use Rattle.lists_core.proofs.PutsFacts.{puts-then}
use Rattle.written_core.proofs.PutLemmas.{first-cut}
use Rattle.problem_text_core.proofs.put.put_word_line.Goals as goal

pub returns-in_err-put_text : goal.returns-in_err-put_text
returns-in_err-put_text c = first-cut _ _ c.args.key.now (c.args.word.now ++ codes "\n") c.from_residual.result c.from_residual.ensures.0 c.in_err-put_text.ensures

pub returns-in_err-put_text-2 : goal.returns-in_err-put_text-2
returns-in_err-put_text-2 c =
    let r = c.from_residual-in_err-put_text-2.result in
    puts-then _ _ c.args.key.now c.in_ok-put_text.ensures _ (c.args.word.now ++ codes "\n") r (first-cut _ _ c.args.word.now (codes "\n") r c.from_residual-in_err-put_text-2.ensures.0 c.in_err-put_text-2.ensures)

pub returns : goal.returns
returns c =
    let r = c.put_text-3.result in
    puts-then _ _ c.args.key.now c.in_ok-put_text.ensures _ (c.args.word.now ++ codes "\n") r (puts-then _ _ c.args.word.now c.in_ok-put_text-2.ensures _ (codes "\n") r c.put_text-3.ensures)
