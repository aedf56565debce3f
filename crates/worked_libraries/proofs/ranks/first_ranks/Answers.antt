use Rattle.std.proofs.Common.{arith}
use Rattle.ranks_core.proofs.RanksFacts.{has_first}
use Rattle.worked_libraries.proofs.ranks.first_ranks.Goals as goal

pub first_places-requires-clause-criterion : goal.first_places-requires-clause-criterion
first_places-requires-clause-criterion c =
    (has_first c.args.problem.now c.args.examples.now c.in-Ok.ranks c.in-Ok.ensures (omega (arith, c.criteria_count.ensures.count))).placed

pub first_places-requires-clause-rows : goal.first_places-requires-clause-rows
first_places-requires-clause-rows c =
    let first = has_first c.args.problem.now c.args.examples.now c.in-Ok.ranks c.in-Ok.ensures (omega (arith, c.criteria_count.ensures.count)) in
    omega (arith, first.wide, c.count.ensures.count)

pub count-requires-2 : goal.count-requires-2
count-requires-2 c =
    (has_first c.args.problem.now c.args.examples.now c.in-Ok.ranks c.in-Ok.ensures (omega (arith, c.criteria_count.ensures.count))).graded
