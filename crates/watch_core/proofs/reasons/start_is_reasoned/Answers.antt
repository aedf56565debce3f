use Rattle.watch_core.proofs.ReasonLemmas.{start_empty, start_assigned, start_decided, start_undone, start_propagated}
use Rattle.watch_core.proofs.reasons.start_is_reasoned.Goals as goal

pub returns-clause-start : goal.returns-clause-start
returns-clause-start g c = start_empty

pub returns-clause-assigned : goal.returns-clause-assigned
returns-clause-assigned g c = start_assigned

pub returns-clause-decided : goal.returns-clause-decided
returns-clause-decided g c = start_decided

pub returns-clause-undone : goal.returns-clause-undone
returns-clause-undone g c = start_undone g.L.Lit.table_place

pub returns-clause-propagated : goal.returns-clause-propagated
returns-clause-propagated g c = start_propagated g.L.Lit.table_place
