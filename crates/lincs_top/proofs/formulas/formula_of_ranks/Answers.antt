use Rattle.std.proofs.Common.{◌∙◌}
use Rattle.lincs_top.proofs.Judging.{size_fits, size_stops, criteria_counted}
use Rattle.lincs_top.proofs.formulas.formula_of_ranks.Goals as goal

pub returns-in-Ok-clause-size : goal.returns-in-Ok-clause-size
returns-in-Ok-clause-size c = size_fits _ c.in-Ok.ensures.small

pub returns-in-Err-clause-size : goal.returns-in-Err-clause-size
returns-in-Err-clause-size c =
    rw c.size_stop.ensures (size_stops _ c.in-Err.fault (c.criteria_count.ensures.count ∙ criteria_counted c.args.problem.now c.args.examples.now) c.in-Err.ensures.fault)
