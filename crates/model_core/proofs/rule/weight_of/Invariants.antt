use Rattle.std.proofs.Common.{◌≡◌, ◌+◌, ◌*◌, ◌^◌, ◌≤◌, drop}
use Rattle.model_core.proofs.WeightLemmas.{magnitude_of}
use Rattle.model_core.proofs.rule.weight_of.Given as goal

abbrev pub invariant-loop-weight : goal.invariant-loop-weight
invariant-loop-weight l = record {
  sum : l.total + magnitude_of (drop l.weight-index l.weights) l.rest ≡ magnitude_of l.weights l.set;
  bound : l.total ≤ l.weight-index * 10 ^ 36;
}
