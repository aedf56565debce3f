use Rattle.std.proofs.Common.{◌≡◌, ◌≤◌, length}
use Rattle.std.specs.List.{All}
use Rattle.search_core.specs.Analysis.{IsWalked, below_of}
use Rattle.search_core.proofs.analyze.Analysis.analyze.Given as goal

abbrev pub invariant-loop-last : goal.invariant-loop-last
invariant-loop-last g l = record {
  size : length l.self.stamps.items ≡ length l.fn.self.stamps.items;
  old : All (λ s. s ≤ l.self.stamp) l.self.stamps.items;
  stamp : l.self.stamp ≡ l.fn.self.stamp;
  walked : IsWalked l.trail l.arena l.self.stamps.items l.self.stamp l.self.lower.items l.self.hints.items l.last;
}

abbrev pub decreases-loop-last : goal.decreases-loop-last
decreases-loop-last g l = below_of l.last
