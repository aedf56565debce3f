use Rattle.std.proofs.Common.{◌≡◌, ◌*◌, ◌<◌, ℕ, false, length, get_or}
use Rattle.literals_core.specs.Truth.{is_true}
use Rattle.watch_core.specs.Trail.{places}
use Rattle.search_core.specs.State.{place}
use Rattle.search_core.proofs.solve.values_of.Given as goal

abbrev pub invariant-loop-variable : goal.invariant-loop-variable
invariant-loop-variable l = record {
  count : length l.values.items ≡ l.variable;
  values : (v : ℕ) → v < l.variable → get_or l.values.items v false ≡ is_true (places place l.trail.entries) (2 * v);
}
