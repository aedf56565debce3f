use Rattle.std.proofs.Common.{ℕ, List, sym, subst, Some}
use Rattle.watch_core.specs.Trail.{Assignment, assigned}
use Rattle.watch_core.specs.Places.{placed}
use Rattle.watch_core.specs.Rest.{CanPropagate}
use Rattle.search_core.specs.State.{place}
use Rattle.search_core.proofs.UnitLemmas.{unit_ready}
use Rattle.search_core.proofs.propagate.assign_unit.Goals as goal

pub propagate-requires : goal.propagate-requires
propagate-requires g c = record { ready = subst (λ (u : Assignment ℕ). CanPropagate place u (placed place c.assign.new.self.clauses)) (sym c.assign.ensures.trail) (subst (λ (cs : List (List ℕ)). CanPropagate place (assigned c.args.watched.now.trail c.args.literal (Some c.args.id)) (placed place cs)) (sym c.assign.ensures.clauses) (unit_ready c.args.watched.now.trail c.args.watched.now.clauses c.args.literal c.args.id c.requires.trail c.requires.rest)) }
