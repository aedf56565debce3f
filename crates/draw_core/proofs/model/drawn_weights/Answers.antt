use Rattle.std.proofs.Common.{length, ap, arith}
use Rattle.encoding_rules.proofs.EachFacts.{length-listed}
use Rattle.draw_core.specs.DrawnModel.{drawn_weight}
use Rattle.draw_core.proofs.model.drawn_weights.Goals as goal

pub push-requires : goal.push-requires
push-requires c =
    let few = c.criteria_count-i-end.ensures.facts.few_criteria in
    omega (arith, ap length c.loop-i.invariant, length-listed (drawn_weight c.args.problem.now c.args.words.now) c.loop-i.i, c.criteria_count-i-end.ensures.count, few, c.loop-i-test.true)
