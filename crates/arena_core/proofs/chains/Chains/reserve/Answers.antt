use Rattle.std.proofs.Common.{rules, refl, ap, ◌∙◌}
use Rattle.arena_core.specs.Chains.{Chained}
use Rattle.arena_core.proofs.GrowLemmas.{more_room}
use Rattle.arena_core.proofs.chains.Chains.reserve.Goals as goal

pub invariant_of-self-then-clauses-self : goal.invariant_of-self-then-clauses-self
invariant_of-self-then-clauses-self g c = (more_room g.L.Lit.table_place c.self.inside.heads.items c.self.inside.links.items c.resize.new.self.items c.self.inside.room c.args.clauses c.min-size.result _ _ c.self.invariant refl refl refl c.if-clauses-self.true c.min-size.ensures (search rules) c.in_ok-resize.ensures.items).0

pub returns-in_ok-resize-clause-chains : goal.returns-in_ok-resize-clause-chains
returns-in_ok-resize-clause-chains g c = (more_room g.L.Lit.table_place c.self.inside.heads.items c.self.inside.links.items c.resize.new.self.items c.self.inside.room c.args.clauses c.min-size.result _ _ c.self.invariant refl refl refl c.if-clauses-self.true c.min-size.ensures (search rules) c.in_ok-resize.ensures.items).1 ∙ ap (λ (x : Chained). x.chains) c.self.view_is
