use Rattle.watch_core.proofs.ReasonLemmas.{reasons_start, reasons_assigned, reasons_decided, reasons_undone, reasons_added, reasons_propagated}
use Rattle.watch_core.proofs.reasons.reasons_are_kept.Goals as goal

pub returns-clause-start : goal.returns-clause-start
returns-clause-start g c = reasons_start g.L.Lit.table_place

pub returns-clause-assigned : goal.returns-clause-assigned
returns-clause-assigned g c = reasons_assigned g.L.Lit.table_place

pub returns-clause-decided : goal.returns-clause-decided
returns-clause-decided g c = reasons_decided g.L.Lit.table_place

pub returns-clause-undone : goal.returns-clause-undone
returns-clause-undone g c = reasons_undone g.L.Lit.table_place

pub returns-clause-added : goal.returns-clause-added
returns-clause-added g c = reasons_added g.L.Lit.table_place

pub returns-clause-propagated : goal.returns-clause-propagated
returns-clause-propagated g c = reasons_propagated g.L.Lit.table_place
