-- The flags of an accepted set, criterion by criterion.
use Rattle.std.proofs.Common.{◌≡◌, ℕ, zero, suc, ◌<◌, ℤ, pos, false, List, [], ◌∷◌, length, get_or, refl, arith}
use Rattle.sorting_rule.specs.Preference.{accepts}
use Rattle.sorting_rule.specs.Model.{Profile, threshold_at, accepted_flags}
use Rattle.sorting_rule.specs.Rebuilt.{no_profile}

pub length_flags : (ps : List Profile) (place : ℕ) (xs : List ℤ) → length ps ≡ length xs → length (accepted_flags ps place xs) ≡ length ps
length_flags [] place xs e = refl
length_flags (p ∷ ps) place [] e = absurd (omega (arith, e))
length_flags (p ∷ ps) place (x ∷ xs) e = let rest = length_flags ps place xs (omega (arith, e)) in omega (arith, rest)

pub flag_at : (ps : List Profile) (place : ℕ) (xs : List ℤ) (i : ℕ) → length ps ≡ length xs → i < length ps
    → get_or (accepted_flags ps place xs) i false ≡ accepts (get_or ps i no_profile).direction (threshold_at (get_or ps i no_profile) place) (get_or xs i (pos 0))
flag_at [] place xs i e lt = absurd (omega (arith, lt))
flag_at (p ∷ ps) place [] i e lt = absurd (omega (arith, e))
flag_at (p ∷ ps) place (x ∷ xs) zero e lt = refl
flag_at (p ∷ ps) place (x ∷ xs) (suc i) e lt = flag_at ps place xs i (omega (arith, e)) (omega (arith, lt))
