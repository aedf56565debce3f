use Rattle.std.proofs.Common.{◌∙◌, ap, arith, get_or}
use Rattle.arena_core.proofs.SeatLemmas.{head_small, apart_seen}
use Rattle.arena_core.proofs.KeepsLemmas.{no_first_at}
use Rattle.arena_core.specs.Chains.{Chained}
use Rattle.arena_core.proofs.chains.Chains.first.Goals as goal

pub at-requires : goal.at-requires
at-requires g c = head_small g.L.Lit.table_place c.self.inside.heads.items c.self.inside.links.items c.args.self.now.chains c.self.inside.room _ c.index-number.result.now c.self.invariant (ap (λ (x : Chained). x.chains) c.self.view_is) (omega (arith, c.place.ensures, c.requires)) c.index-number.ensures c.if-number.false

pub returns-then-number-clause-value : goal.returns-then-number-clause-value
returns-then-number-clause-value g c = no_first_at c.self.inside.heads.items _ _ _ _ c.args.self.now.chains _ c.index-number.result.now c.self.invariant.keeps (ap (λ (x : Chained). x.chains) c.self.view_is) c.requires (c.index-number.ensures ∙ ap (λ p. get_or c.self.inside.heads.items p c.index-number.result.now) c.place.ensures) c.if-number.true

pub returns-then-number-clause-apart : goal.returns-then-number-clause-apart
returns-then-number-clause-apart g c = apart_seen g.L.Lit.table_place c.self.inside.heads.items c.self.inside.links.items c.args.self.now.chains c.self.invariant.keeps (ap (λ (x : Chained). x.chains) c.self.view_is)

pub returns-else-number-clause-apart : goal.returns-else-number-clause-apart
returns-else-number-clause-apart g c = apart_seen g.L.Lit.table_place c.self.inside.heads.items c.self.inside.links.items c.args.self.now.chains c.self.invariant.keeps (ap (λ (x : Chained). x.chains) c.self.view_is)
