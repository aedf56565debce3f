use Rattle.std.proofs.Common.{◌≤◌, length, sym, ◌∙◌, rules}
use Rattle.watch_core.specs.Trail.{places}
use Rattle.watch_core.proofs.AddLemmas.{find_unit, later_false}
use Rattle.watch_core.proofs.added.find_standing.Goals as goal

pub returns : goal.returns
returns g c =
    let shut = sym c.is_false-2.ensures ∙ c.if-not-is_false.false in
    let long : 2 ≤ length c.args.clause.now = search rules in
    find_unit g.L.Lit.table_place (places g.L.Lit.table_place c.args.trail.now.entries) c.args.clause.now c.index-clause-0.result c.index-clause-1.result c.index-clause-0.is c.index-clause-1.is long
    (sym c.is_false.ensures ∙ c.if-is_false.false) (sym c.is_true.ensures ∙ c.if-is_true.false) shut (later_false g.L.Lit.table_place c.args.trail.now c.args.clause.now c.index-clause-1.result c.requires long c.index-clause-1.is shut)
