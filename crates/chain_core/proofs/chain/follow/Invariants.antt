use Rattle.std.proofs.Common.{◌≡◌, ℕ, ◌≤◌, List, drop}
use Rattle.std.specs.List.{All}
use Rattle.chain_core.specs.Chain.{chain_from}
use Rattle.chain_core.specs.Stamps.{IsMarked}
use Rattle.chain_core.specs.Log.{known_before}
use Rattle.chain_core.proofs.chain.follow.Given as goal

abbrev pub invariant-loop-hint : goal.invariant-loop-hint
invariant-loop-hint l = record {
  marked : (set : List ℕ) → IsMarked l.initial.stamps l.stamp set → (now : List ℕ) × IsMarked l.stamps l.stamp now × (chain_from (known_before l.formula l.log l.k) now (drop l.hint-index l.hints) ≡ chain_from (known_before l.formula l.log l.k) set l.hints);
  bound : All (λ s. s ≤ l.stamp) l.stamps;
}
