use Rattle.std.proofs.Common.{ap, sym, refl, subst, ◌≡◌, ◌+◌, inr, None}
use Rattle.watch_core.specs.Trail.{Assignment, places, value_of}
use Rattle.watch_core.specs.Watched.{Clauses}
use Rattle.watch_core.proofs.HeldLemmas.{held_entered}
use Rattle.watch_core.proofs.watched.Watched.decide.Goals as goal

pub invariant_of-self : goal.invariant_of-self
invariant_of-self g c = held_entered g.L.Lit.table_place c.self.inside.arena c.self.inside.chains.chains c.self.inside.chains.room (c.self.inside.trail.level + 1) c.self.inside.trail c.decide.new.self c.args.literal None c.self.invariant c.decide.ensures.value c.decide.ensures.kept (subst (λ (u : Assignment g.row.L.Denot). value_of (places g.L.Lit.table_place u.entries) (g.L.Lit.table_place c.args.literal) ≡ None) (sym (ap (λ (x : Clauses g.row.L.Denot). x.trail) c.self.view_is)) c.requires.free) (inr refl)
