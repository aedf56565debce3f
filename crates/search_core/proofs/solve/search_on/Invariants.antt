use Rattle.std.proofs.Common.{◌≡◌, ◌≤◌, length}
use Rattle.std.specs.List.{All}
use Rattle.watch_core.specs.Places.{placed}
use Rattle.watch_core.specs.Rest.{CanPropagate}
use Rattle.search_core.specs.State.{place}
use Rattle.search_core.proofs.LogLemmas.{HasLearned}
use Rattle.search_core.proofs.solve.search_on.Given as goal

abbrev pub invariant-loop-k : goal.invariant-loop-k
invariant-loop-k g l = record {
  lemmas : length l.log ≡ l.k;
  learned : HasLearned l.formula l.log l.watched.clauses l.watched.trail;
  ready : CanPropagate place l.watched.trail (placed place l.watched.clauses);
  variables : l.watched.trail.variables ≡ l.count;
  size : length l.analysis.stamps.items ≡ l.count;
  old : All (λ s. s ≤ l.k) l.analysis.stamps.items;
  stamp : l.analysis.stamp ≡ l.k;
}
