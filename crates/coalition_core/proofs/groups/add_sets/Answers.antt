use Rattle.std.proofs.Common.{◌++◌}
use Rattle.coalition_core.specs.Plain.{larger_of_sets, bads_clauses, goods_clauses}
use Rattle.coalition_core.proofs.GroupFacts.{takes_after, can_first, can_second, can_third}
use Rattle.coalition_core.proofs.groups.add_sets.Goals as goal

pub add_larger-requires-clause-fits : goal.add_larger-requires-clause-fits
add_larger-requires-clause-fits c = can_first c.args.formula.now (larger_of_sets c.args.first c.args.n) (bads_clauses c.args.first c.args.bads.now) (goods_clauses c.args.first c.args.goods.now) c.requires.fits

pub add_bads-requires-clause-fits : goal.add_bads-requires-clause-fits
add_bads-requires-clause-fits c = can_second c.args.formula.now (larger_of_sets c.args.first c.args.n) (bads_clauses c.args.first c.args.bads.now) (goods_clauses c.args.first c.args.goods.now) c.requires.fits
    c.add_larger.new.formula c.in_ok-add_larger.ensures.variables c.in_ok-add_larger.ensures.taken

pub add_goods-requires-clause-fits : goal.add_goods-requires-clause-fits
add_goods-requires-clause-fits c = can_third c.args.formula.now (larger_of_sets c.args.first c.args.n) (bads_clauses c.args.first c.args.bads.now) (goods_clauses c.args.first c.args.goods.now) c.requires.fits
    c.add_larger.new.formula c.in_ok-add_larger.ensures.variables c.in_ok-add_larger.ensures.taken c.add_bads.new.formula c.in_ok-add_bads.ensures.variables c.in_ok-add_bads.ensures.taken

pub returns : goal.returns
returns c = takes_after c.args.formula.now c.add_larger.new.formula c.add_goods.new.formula c.add_goods.result (larger_of_sets c.args.first c.args.n) (bads_clauses c.args.first c.args.bads.now ++ goods_clauses c.args.first c.args.goods.now)
    c.in_ok-add_larger.ensures.variables c.in_ok-add_larger.ensures.taken
    (takes_after c.add_larger.new.formula c.add_bads.new.formula c.add_goods.new.formula c.add_goods.result (bads_clauses c.args.first c.args.bads.now) (goods_clauses c.args.first c.args.goods.now)
    c.in_ok-add_bads.ensures.variables c.in_ok-add_bads.ensures.taken c.add_goods.ensures)
