use Rattle.std.proofs.Common.{arith, refl, ◌∙◌, length, get_or, set, ◌<◌, ◌≡◌}
use Rattle.std.proofs.lemmas.List.{length-map}
use Rattle.arena_core.specs.Links.{none, nexts, befores}
use Rattle.arena_core.specs.declared.links.Link.{Link}
use Rattle.arena_core.proofs.KeepsLemmas.{linked, head_inside, befores_few}
use Rattle.arena_core.proofs.links.link_in.Goals as goal

pub set_before-requires-then-head : goal.set_before-requires-then-head
set_before-requires-then-head g c =
    let lt : c.place-place.result < length c.args.heads.now = omega (arith, c.place-place.ensures, c.requires.place) in
    let there : get_or c.args.heads.now c.place-place.result 0 < length (nexts c.args.links.now) = head_inside c.args.heads.now _ _ _ _ c.place-place.result c.requires.held lt c.if-head.true in
    let size : length (nexts c.args.links.now) ≡ length c.args.links.now = length-map c.args.links.now (λ (l : Link g.row.L.Denot). l.next) in
    omega (arith, there, size, c.set_next.auto.links, c.set_before.auto.links, c.set_owner.auto.links)

pub returns-then-head-clause-held : goal.returns-then-head-clause-held
returns-then-head-clause-held g c = (linked g.L.Lit.table_place c.args.heads.now _ c.args.links.now c.set_before-then-head.new.links c.args.seat (g.L.Lit.table_place c.args.literal) _ _ c.requires.held c.requires.place c.requires.seat c.requires.free c.place-place.ensures refl refl (cc) (cc) (cc)).0

pub returns-then-head-clause-chains : goal.returns-then-head-clause-chains
returns-then-head-clause-chains g c = (linked g.L.Lit.table_place c.args.heads.now _ c.args.links.now c.set_before-then-head.new.links c.args.seat (g.L.Lit.table_place c.args.literal) _ _ c.requires.held c.requires.place c.requires.seat c.requires.free c.place-place.ensures refl refl (cc) (cc) (cc)).1

pub returns-else-head-clause-held : goal.returns-else-head-clause-held
returns-else-head-clause-held g c =
    let wrote : befores c.set_owner.new.links ≡ set (befores c.args.links.now) c.args.seat none = cc in
    let few = befores_few g.L.Lit.table_place c.args.heads.now c.args.links.now c.set_owner.new.links c.args.seat c.requires.held wrote in
    (linked g.L.Lit.table_place c.args.heads.now _ c.args.links.now c.set_owner.new.links c.args.seat (g.L.Lit.table_place c.args.literal) _ _ c.requires.held c.requires.place c.requires.seat c.requires.free c.place-place.ensures refl refl (cc) (wrote ∙ few c.args.seat _ c.if-head.false) (cc)).0

pub returns-else-head-clause-chains : goal.returns-else-head-clause-chains
returns-else-head-clause-chains g c =
    let wrote : befores c.set_owner.new.links ≡ set (befores c.args.links.now) c.args.seat none = cc in
    let few = befores_few g.L.Lit.table_place c.args.heads.now c.args.links.now c.set_owner.new.links c.args.seat c.requires.held wrote in
    (linked g.L.Lit.table_place c.args.heads.now _ c.args.links.now c.set_owner.new.links c.args.seat (g.L.Lit.table_place c.args.literal) _ _ c.requires.held c.requires.place c.requires.seat c.requires.free c.place-place.ensures refl refl (cc) (wrote ∙ few c.args.seat _ c.if-head.false) (cc)).1
