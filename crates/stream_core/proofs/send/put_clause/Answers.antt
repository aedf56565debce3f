use Rattle.chain_core.proofs.WriteLemmas.{clause_line}
use Rattle.stream_core.proofs.Steps.{same_text, in_turn, cut}
use Rattle.stream_core.proofs.send.put_clause.Goals as goal

pub returns-in_err-put_literals : goal.returns-in_err-put_literals
returns-in_err-put_literals g c = same_text (clause_line c.args.literals.now) (cut _ c.from_residual.result c.from_residual.ensures.0 c.in_err-put_literals.ensures.streams)

pub returns : goal.returns
returns g c = same_text (clause_line c.args.literals.now) (in_turn c.in_ok-put_literals.ensures.streams c.put_text.ensures)
