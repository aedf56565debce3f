-- Names that are put one after the other into a list.
use Rattle.std.specs.Prelude.{ℕ, zero, suc, Bool, true, not, ◌&&◌, List}
use Rattle.problem_core.specs.Name.{is_among}
use Rattle.encoding_rules.specs.Each.{listed}

-- all numbers below another pass
abbrev pub all_below : (ℕ → Bool) → ℕ → Bool
all_below p zero = true
all_below p (suc n) = all_below p n && p n

-- none of the names at 0, 1 and so on below a number is an earlier one
abbrev pub are_new : (ℕ → List ℕ) → ℕ → Bool
are_new name count = all_below (λ k. not (is_among (listed name k) (name k))) count
