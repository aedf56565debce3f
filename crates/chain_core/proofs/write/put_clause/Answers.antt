use Rattle.lists_core.proofs.PutsFacts.{puts-then}
use Rattle.chain_core.proofs.WriteLemmas.{puts-as, clause_line, failed_first}
use Rattle.chain_core.proofs.write.put_clause.Goals as goal

pub returns-in_err-put_literals : goal.returns-in_err-put_literals
returns-in_err-put_literals c = puts-as _ _ _ _ _ (clause_line c.args.literals.now) (failed_first _ _ _ _ c.from_residual.result c.from_residual.ensures.0 c.in_err-put_literals.ensures.text)

pub returns : goal.returns
returns c = puts-as _ _ _ _ _ (clause_line c.args.literals.now) (puts-then _ _ _ c.in_ok-put_literals.ensures.text _ _ _ c.put_text.ensures)
