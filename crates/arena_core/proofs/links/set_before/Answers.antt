use Rattle.std.proofs.Common.{refl}
use Rattle.std.proofs.lemmas.List.{map-set}
use Rattle.std.proofs.Math.Seq.{map-set_same}
use Rattle.arena_core.specs.Links.{place_in}
use Rattle.arena_core.specs.declared.links.Link.{Link}
use Rattle.arena_core.proofs.links.set_before.Goals as goal

pub returns-clause-next : goal.returns-clause-next
returns-clause-next g c = map-set_same (λ (l : Link g.row.L.Denot). l.next) c.args.links.now c.args.i _ c.index-links-i.result refl

pub returns-clause-before : goal.returns-clause-before
returns-clause-before g c = map-set (λ (l : Link g.row.L.Denot). l.before) c.args.links.now c.args.i _

pub returns-clause-owner : goal.returns-clause-owner
returns-clause-owner g c = map-set_same (λ (l : Link g.row.L.Denot). place_in g.L.Lit.table_place l.owner) c.args.links.now c.args.i _ c.index-links-i.result refl
