use Rattle.std.proofs.Common.{◌≡◌, ◌≤◌, ℕ, length, Some}
use Rattle.std.specs.List.{All}
use Rattle.search_core.specs.Analysis.{AreMarked, IsExplained}
use Rattle.search_core.proofs.analyze.Analysis.minimize.Given as goal

abbrev pub invariant-loop-k : goal.invariant-loop-k
invariant-loop-k g l = record {
  few : l.k ≤ length l.self.lower.items;
  size : length l.self.stamps.items ≡ length l.fn.self.stamps.items;
  old : All (λ s. s ≤ l.self.stamp) l.self.stamps.items;
  stamp : l.self.stamp ≡ l.fn.self.stamp;
  marked : AreMarked l.trail l.self.stamps.items l.self.stamp l.self.lower.items;
  explained : (point : ℕ) → IsExplained l.trail l.arena (Some point) l.fn.self.lower.items l.fn.self.hints.items → IsExplained l.trail l.arena (Some point) l.self.lower.items l.self.hints.items;
}

abbrev pub decreases-loop-k : goal.decreases-loop-k
decreases-loop-k g l = l.k
