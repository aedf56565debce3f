use Rattle.std.proofs.Common.{◌++◌, codes}
use Rattle.lists_core.proofs.PutsFacts.{puts-then}
use Rattle.yaml_tokens.specs.Written.{quoted_text}
use Rattle.written_core.proofs.PutLemmas.{first-cut}
use Rattle.problem_text_core.proofs.put.put_quoted_line.Goals as goal

pub returns-in_err-put_text-clause-text : goal.returns-in_err-put_text-clause-text
returns-in_err-put_text-clause-text c = first-cut _ _ c.args.key.now (quoted_text c.args.text.now ++ codes "\n") c.from_residual.result c.from_residual.ensures.0 c.in_err-put_text.ensures

pub returns-in_err-put_quoted-clause-text : goal.returns-in_err-put_quoted-clause-text
returns-in_err-put_quoted-clause-text c =
    let name = quoted_text c.args.text.now in
    let r = c.from_residual-in_err-put_quoted.result in
    puts-then _ _ c.args.key.now c.in_ok-put_text.ensures _ (name ++ codes "\n") r (first-cut _ _ name (codes "\n") r c.from_residual-in_err-put_quoted.ensures.0 c.in_err-put_quoted.ensures.text)

pub returns-clause-text : goal.returns-clause-text
returns-clause-text c =
    let name = quoted_text c.args.text.now in
    let r = c.put_text-2.result in
    puts-then _ _ c.args.key.now c.in_ok-put_text.ensures _ (name ++ codes "\n") r (puts-then _ _ name c.in_ok-put_quoted.ensures.text _ (codes "\n") r c.put_text-2.ensures)
