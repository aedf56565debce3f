-- The places of a formula's literals, their signs, and the numbers that write them.
use Rattle.std.specs.Prelude.{ℕ, ◌≤◌, Bool, ℤ, pos, negsuc, ◌-◌, ◌/◌, ◌%◌, ◌==◌, if◌then◌else◌}

-- the place of a literal: its variable is from 1 to 2147483647
abbrev pub IsPlace : ℕ → Type 0
IsPlace l = (2 ≤ l) × (l ≤ 4294967295)

-- whether the sign of a literal is minus
abbrev pub has_minus : ℕ → Bool
has_minus l = l % 2 == 1

-- the number that writes a literal: its variable, negative if its sign is minus
abbrev pub number_of : ℕ → ℤ
number_of l = if l % 2 == 0 then pos (l / 2) else negsuc (l / 2 - 1)
