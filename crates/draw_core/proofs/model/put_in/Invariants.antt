use Rattle.std.proofs.Common.{ℕ, ◌-◌, ◌<◌, ◌≤◌, length, get_or}
use Rattle.draw_core.proofs.model.put_in.Given as goal

abbrev pub invariant-loop-place : goal.invariant-loop-place
invariant-loop-place l = record { within : l.place ≤ length l.rising.items; below : (j : ℕ) → j < l.place → get_or l.rising.items j 0 < l.number }

abbrev pub decreases-loop-place : goal.decreases-loop-place
decreases-loop-place l = length l.rising.items - l.place
