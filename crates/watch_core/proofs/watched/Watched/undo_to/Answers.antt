use Rattle.std.proofs.Common.{ap, ◌≡◌, arith}
use Rattle.watch_core.specs.Watched.{Clauses}
use Rattle.watch_core.proofs.HeldLemmas.{held_undone}
use Rattle.watch_core.proofs.watched.Watched.undo_to.Goals as goal

pub invariant_of-self : goal.invariant_of-self
invariant_of-self g c = (let v = (ap (λ (x : Clauses g.row.L.Denot). x.trail) c.self.view_is) in let l : c.self.inside.trail.level ≡ c.args.self.now.trail.level = ap (λ (x : Clauses g.row.L.Denot). x.trail.level) c.self.view_is in held_undone g.L.Lit.table_place c.self.inside.arena c.self.inside.chains.chains c.self.inside.chains.room c.args.level c.self.inside.trail c.undo_to.new.self c.self.invariant c.undo_to.ensures.value c.undo_to.ensures.kept (omega (arith, c.requires, l)))
