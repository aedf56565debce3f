use Rattle.chain_core.proofs.WriteLemmas.{dimacs_by}
use Rattle.stream_core.proofs.Steps.{sent_all, cut_off, in_turn, cut, cut_last, same_text}
use Rattle.stream_core.proofs.send.send_dimacs.Goals as goal

pub returns-in_err-put_size : goal.returns-in_err-put_size
returns-in_err-put_size g c = record {
  sends =
      cut_off c.from_residual.result c.from_residual.ensures.0 c.new-piece.ensures
      (same_text (dimacs_by c.args.formula.now c.variables.result c.count.result c.variables.ensures.value c.count.ensures.value)
      (cut _ c.from_residual.result c.from_residual.ensures.0 c.in_err-put_size.ensures));
}

pub returns-in_err-put_clauses : goal.returns-in_err-put_clauses
returns-in_err-put_clauses g c = record {
  sends =
      cut_off c.from_residual-in_err-put_clauses.result c.from_residual-in_err-put_clauses.ensures.0 c.new-piece.ensures
      (same_text (dimacs_by c.args.formula.now c.variables.result c.count.result c.variables.ensures.value c.count.ensures.value)
      (in_turn c.in_ok-put_size.ensures (cut_last c.from_residual-in_err-put_clauses.result c.from_residual-in_err-put_clauses.ensures.0 c.in_err-put_clauses.ensures)));
}

pub returns : goal.returns
returns g c = record {
  sends =
      sent_all c.send.result c.new-piece.ensures
      (same_text (dimacs_by c.args.formula.now c.variables.result c.count.result c.variables.ensures.value c.count.ensures.value)
      (in_turn c.in_ok-put_size.ensures c.in_ok-put_clauses.ensures)) c.send.ensures.sends;
}
