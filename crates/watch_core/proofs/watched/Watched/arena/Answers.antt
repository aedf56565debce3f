use Rattle.std.proofs.Common.{ℕ, ◌*◌, ◌<◌, ◌==◌, [], get_or, subst}
use Rattle.std.specs.List.{Contains, IsDistinct}
use Rattle.literals_core.specs.DistinctVariables.{HasDistinctVariables}
use Rattle.watch_core.specs.Places.{placed}
use Rattle.watch_core.specs.Watched.{Clauses}
use Rattle.watch_core.proofs.GoingLemmas.{distinct_literals, variables_apart}
use Rattle.watch_core.proofs.watched.Watched.arena.Goals as goal

pub returns-clause-inside : goal.returns-clause-inside
returns-clause-inside g c = subst (λ (x : Clauses g.row.L.Denot). (clause place : ℕ) → Contains (get_or (placed g.L.Lit.table_place x.clauses) clause []) place → place < 2 * x.trail.variables) c.self.view_is c.self.invariant.covers.inside

pub returns-clause-distinct : goal.returns-clause-distinct
returns-clause-distinct g c = subst (λ (x : Clauses g.row.L.Denot). (clause : ℕ) → IsDistinct (λ a b. a == b) (get_or (placed g.L.Lit.table_place x.clauses) clause [])) c.self.view_is (λ clause. distinct_literals (get_or (placed g.L.Lit.table_place c.self.inside.arena) clause []) (c.self.invariant.covers.distinct clause))

pub returns-clause-apart : goal.returns-clause-apart
returns-clause-apart g c = subst (λ (x : Clauses g.row.L.Denot). (clause : ℕ) → HasDistinctVariables (get_or (placed g.L.Lit.table_place x.clauses) clause [])) c.self.view_is (λ clause. variables_apart (get_or (placed g.L.Lit.table_place c.self.inside.arena) clause []) (c.self.invariant.covers.distinct clause))
