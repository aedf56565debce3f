use Rattle.lists_core.proofs.PutsFacts.{puts-then}
use Rattle.chain_core.proofs.WriteLemmas.{puts-as, dimacs_by, failed_first}
use Rattle.chain_core.proofs.write.put_dimacs.Goals as goal

pub returns-in_err-put_size : goal.returns-in_err-put_size
returns-in_err-put_size c = record {
  text =
      puts-as _ _ _ _ _ (dimacs_by c.args.formula.now c.variables.result c.count.result c.variables.ensures.value c.count.ensures.value) (failed_first _ _ _ _ c.from_residual.result c.from_residual.ensures.0 c.in_err-put_size.ensures);
}

pub returns : goal.returns
returns c = record {
  text =
      puts-as _ _ _ _ _ (dimacs_by c.args.formula.now c.variables.result c.count.result c.variables.ensures.value c.count.ensures.value) (puts-then _ _ _ c.in_ok-put_size.ensures _ _ _ c.put_clauses.ensures);
}
