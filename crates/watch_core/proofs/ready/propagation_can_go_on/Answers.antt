use Rattle.std.proofs.Common.{refl}
use Rattle.watch_core.specs.Trail.{empty_trail}
use Rattle.watch_core.proofs.ReadyLemmas.{rests_at_start, can_at_rest, can_more, can_decided, rests_undone, rests_added, can_assigned}
use Rattle.watch_core.proofs.ready.propagation_can_go_on.Goals as goal

pub returns-clause-start : goal.returns-clause-start
returns-clause-start g c = λ clauses variables. rests_at_start g.L.Lit.table_place (empty_trail variables) clauses variables refl

pub returns-clause-assigned : goal.returns-clause-assigned
returns-clause-assigned g c = can_more g.L.Lit.table_place

pub returns-clause-rest : goal.returns-clause-rest
returns-clause-rest g c = can_at_rest g.L.Lit.table_place

pub returns-clause-free : goal.returns-clause-free
returns-clause-free g c = rests_added g.L.Lit.table_place

pub returns-clause-decided : goal.returns-clause-decided
returns-clause-decided g c = can_decided g.L.Lit.table_place

pub returns-clause-undone : goal.returns-clause-undone
returns-clause-undone g c = rests_undone g.L.Lit.table_place

pub returns-clause-added : goal.returns-clause-added
returns-clause-added g c = can_assigned g.L.Lit.table_place
