use Rattle.lists_core.proofs.PutsFacts.{puts-then}
use Rattle.chain_core.proofs.WriteLemmas.{failed_first}
use Rattle.chain_core.proofs.write.put_id.Goals as goal

pub returns-in_err-put_number-clause-text : goal.returns-in_err-put_number-clause-text
returns-in_err-put_number-clause-text c = failed_first _ _ _ _ c.from_residual.result c.from_residual.ensures.0 c.in_err-put_number.ensures

pub returns-clause-text : goal.returns-clause-text
returns-clause-text c = puts-then _ _ _ c.in_ok-put_number.ensures _ _ _ c.put_text.ensures
