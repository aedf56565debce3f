use Rattle.std.proofs.Common.{◌∙◌}
use Rattle.lincs_top.proofs.Judging.{criteria_counted}
use Rattle.lincs_top.proofs.Learning.{learning_stops}
use Rattle.lincs_top.proofs.learn.answer_of.Goals as goal

pub returns-in-Err-clause-size : goal.returns-in-Err-clause-size
returns-in-Err-clause-size c =
    rw c.size_stop.ensures (learning_stops _ _ _ c.in-Err.fault (c.criteria_count.ensures.count ∙ criteria_counted c.args.problem.now c.args.examples.now) c.in-Err.ensures.fault)
