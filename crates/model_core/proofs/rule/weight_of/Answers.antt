use Rattle.std.proofs.Common.{arith}
use Rattle.model_core.proofs.WeightLemmas.{weight-whole}
use Rattle.model_core.proofs.rule.weight_of.Goals as goal

pub returns : goal.returns
returns c = weight-whole c.args.weights.now c.args.set c.loop-weight.total c.loop-weight.rest c.loop-weight.weight-index c.requires.good c.loop-weight.invariant.sum (omega arith)
