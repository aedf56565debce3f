use Rattle.std.proofs.Common.{ℕ, ◌+◌, ◌≤◌, take}
use Rattle.std.specs.Str.Parse.{digits_value_after}
use Rattle.fixed_core.specs.Mantissa.{IsMantissa}
use Rattle.fixed_core.proofs.mantissa.push_digits.Given as goal

abbrev pub invariant-loop-c : goal.invariant-loop-c
invariant-loop-c l = record { tracks : (n : ℕ) → IsMantissa n l.fn.start → IsMantissa (digits_value_after 10 n (take l.c-index l.digits)) l.m; zeros : l.m.zeros ≤ l.fn.start.zeros + l.c-index }
