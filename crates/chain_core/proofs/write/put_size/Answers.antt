use Rattle.std.specs.Prelude.{decimal}
use Rattle.chain_core.proofs.WriteLemmas.{puts-as, size_line, failed_first, failed_second, failed_third, four_put}
use Rattle.chain_core.proofs.write.put_size.Goals as goal

pub returns-in_err-put_text : goal.returns-in_err-put_text
returns-in_err-put_text c = puts-as _ _ _ _ _ (size_line (decimal c.args.variables) (decimal c.args.clauses)) (failed_first _ _ _ _ c.from_residual.result c.from_residual.ensures.0 c.in_err-put_text.ensures)

pub returns-in_err-put_id : goal.returns-in_err-put_id
returns-in_err-put_id c =
    puts-as _ _ _ _ _ (size_line (decimal c.args.variables) (decimal c.args.clauses))
    (failed_second _ _ _ _ _ _ c.from_residual-in_err-put_id.result c.in_ok-put_text.ensures c.from_residual-in_err-put_id.ensures.0 c.in_err-put_id.ensures.text)

pub returns-in_err-put_number : goal.returns-in_err-put_number
returns-in_err-put_number c =
    puts-as _ _ _ _ _ (size_line (decimal c.args.variables) (decimal c.args.clauses))
    (failed_third _ _ _ _ _ _ _ _ c.from_residual-in_err-put_number.result c.in_ok-put_text.ensures c.in_ok-put_id.ensures.text c.from_residual-in_err-put_number.ensures.0 c.in_err-put_number.ensures)

pub returns : goal.returns
returns c =
    puts-as _ _ _ _ _ (size_line (decimal c.args.variables) (decimal c.args.clauses))
    (four_put _ _ _ _ _ _ _ _ _ _ c.in_ok-put_text.ensures c.in_ok-put_id.ensures.text c.in_ok-put_number.ensures c.put_text-2.ensures)
