use Rattle.watch_core.proofs.ReasonLemmas.{decisions_start, decisions_assigned, decisions_decided, decisions_undone, decisions_propagated}
use Rattle.watch_core.proofs.reasons.decisions_are_kept.Goals as goal

pub returns-clause-start : goal.returns-clause-start
returns-clause-start g c = decisions_start

pub returns-clause-assigned : goal.returns-clause-assigned
returns-clause-assigned g c = decisions_assigned

pub returns-clause-decided : goal.returns-clause-decided
returns-clause-decided g c = decisions_decided g.L.Lit.table_place

pub returns-clause-undone : goal.returns-clause-undone
returns-clause-undone g c = decisions_undone g.L.Lit.table_place

pub returns-clause-propagated : goal.returns-clause-propagated
returns-clause-propagated g c = decisions_propagated g.L.Lit.table_place
