-- A literal is seen as its place: twice its variable, and one more if its sign is minus.
use Rattle.std.specs.Prelude.{ℕ, ◌+◌, ◌-◌, ◌/◌, ◌%◌, ◌==◌, if◌then◌else◌}

abbrev pub variable_of : ℕ → ℕ
variable_of l = l / 2

-- the literal of the same variable with the other sign
abbrev pub negation : ℕ → ℕ
negation l = if l % 2 == 0 then l + 1 else l - 1
