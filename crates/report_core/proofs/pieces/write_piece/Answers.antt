use Rattle.std.proofs.lemmas.Result.{err_from_is_err_and}
use Rattle.model_core.specs.Model.{rule_of}
use Rattle.report_core.proofs.WriteLemmas.{gathered_begins, part_of}
use Rattle.report_core.proofs.pieces.write_piece.Goals as goal

pub returns-in_err-put_all-clause-writes : goal.returns-in_err-put_all-clause-writes
returns-in_err-put_all-clause-writes g c =
    let problem = c.args.problem.now in
    let rule = rule_of problem c.args.model.now in
    let p = err_from_is_err_and c.from_residual.result c.from_residual.ensures.1 in
    let sends = rw c.deref.ensures.value at c.in_err-put_all.ensures.sends in
    let begins = gathered_begins problem rule c.args.table.now c.gather-gathered.new.table c.gather-gathered.new.piece.items c.gather-gathered.result c.gather-gathered.ensures.gathers in
    rw (p.1, p.2) (sends.cause.failed, part_of _ _ c.gather-gathered.new.piece.items _ begins sends.part)
