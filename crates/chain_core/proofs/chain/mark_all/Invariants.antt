use Rattle.std.proofs.Common.{◌≤◌, map, take}
use Rattle.std.specs.List.{All}
use Rattle.literals_core.specs.Literal.{negation}
use Rattle.chain_core.specs.Stamps.{IsMarked}
use Rattle.chain_core.proofs.chain.mark_all.Given as goal

abbrev pub invariant-loop-literal : goal.invariant-loop-literal
invariant-loop-literal l = record {
  marked : IsMarked l.stamps l.stamp (map negation (take l.literal-index l.literals));
  bound : All (λ s. s ≤ l.stamp) l.stamps;
}
