use Rattle.watch_core.proofs.ReasonLemmas.{two_false, false_at_start}
use Rattle.watch_core.proofs.reasons.false_clauses_are_current.Goals as goal

pub returns-clause-above : goal.returns-clause-above
returns-clause-above g c = two_false g.L.Lit.table_place

pub returns-clause-start : goal.returns-clause-start
returns-clause-start g c = false_at_start g.L.Lit.table_place
