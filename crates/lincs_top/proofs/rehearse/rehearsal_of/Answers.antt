use Rattle.lincs_top.proofs.Rehearsing.{rehearsal_stops}
use Rattle.lincs_top.proofs.rehearse.rehearsal_of.Goals as goal

pub returns-in-Err-clause-size : goal.returns-in-Err-clause-size
returns-in-Err-clause-size c = rw c.size_stop.ensures (rehearsal_stops _ _ c.in-Err.fault c.in-Err.ensures.fault)
