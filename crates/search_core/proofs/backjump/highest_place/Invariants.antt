use Rattle.std.proofs.Common.{ℕ, ◌<◌, ◌≤◌, length, get_or}
use Rattle.literals_core.specs.Literal.{negation}
use Rattle.search_core.specs.State.{IsEntry, entry_at}
use Rattle.search_core.specs.Analysis.{HasLevel}
use Rattle.search_core.proofs.backjump.highest_place.Given as goal

abbrev pub invariant-loop-k : goal.invariant-loop-k
invariant-loop-k l = record {
  known : l.highest < length l.lower;
  level : HasLevel l.trail (get_or l.lower l.highest 0) l.level;
  most : (k i : ℕ) → k < l.k → IsEntry l.trail (negation (get_or l.lower k 0)) i → (entry_at l.trail i).level ≤ l.level;
}
