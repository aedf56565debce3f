use Rattle.std.proofs.Common.{◌≡◌, drop, length, []}
use Rattle.model_core.specs.ReadCoalitions.{weights_of}
use Rattle.model_core.proofs.read_coalitions.read_weights.Given as goal

abbrev pub invariant-loop-item : goal.invariant-loop-item
invariant-loop-item l = record {
  count : length l.weights ≡ l.item-index;
  read : weights_of l.fault l.weights (drop l.item-index l.items) ≡ weights_of l.fault [] l.items;
}
