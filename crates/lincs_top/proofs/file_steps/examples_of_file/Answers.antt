use Rattle.lincs_top.proofs.Then.{examples_stop}
use Rattle.lincs_top.proofs.file_steps.examples_of_file.Goals as goal

pub returns-in-Err-clause-step : goal.returns-in-Err-clause-step
returns-in-Err-clause-step g c =
    rw (c.refusing.ensures, c.row_refusal.ensures) (examples_stop _ _ _ c.args.name c.in_ok-table.table c.in_ok-table.ensures.step c.in-Err.fault c.in-Err.ensures.answer)
