-- Literals of variables that are numbered from another number on, as from 1 in formulas and from 0 in tables.
use Rattle.std.specs.Prelude.{ℕ, ◌+◌, ◌*◌, List, map}

-- the literal with the same sign whose variable has a number that is higher by so many
abbrev pub raised : ℕ → ℕ → ℕ
raised by l = l + 2 * by

abbrev pub all_raised : ℕ → List ℕ → List ℕ
all_raised by literals = map (raised by) literals
