use Rattle.std.proofs.Common.{length, ap, arith}
use Rattle.draw_core.specs.DrawnProblem.{drawn_criterion}
use Rattle.encoding_rules.proofs.EachFacts.{length-listed}
use Rattle.draw_core.proofs.problem.drawn_criteria.Goals as goal

pub push-requires : goal.push-requires
push-requires c = omega (arith, ap length c.loop-i.invariant, length-listed (drawn_criterion c.args.words.now) c.loop-i.i)
