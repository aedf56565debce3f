use Rattle.std.proofs.Common.{◌≡◌, ◌≤◌, length, take}
use Rattle.std.specs.List.{All}
use Rattle.search_core.specs.Analysis.{HasMark, AreMarked, Grows}
use Rattle.search_core.proofs.mark.mark_clause.Given as goal

abbrev pub invariant-loop-literal : goal.invariant-loop-literal
invariant-loop-literal l = record {
  size : length l.stamps.items ≡ length l.initial.stamps.items;
  old : All (λ s. s ≤ l.stamp) l.stamps.items;
  marked : AreMarked l.trail l.stamps.items l.stamp l.lower.items;
  all : All (HasMark l.stamps.items l.stamp) (take l.literal-index l.clause);
  grows : Grows l.initial.stamps.items l.stamp l.initial.lower.items l.stamps.items l.lower.items;
}
