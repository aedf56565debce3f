-- What reading a number text returns, in terms of numerals and their values.
use Rattle.std.specs.Prelude.{◌≡◌, ℕ, ◌*◌, ◌^◌, ◌<◌, ◌≤◌, List, Result, Ok, Err, ℤ, unsigned_abs}
use Rattle.fixed_core.specs.declared.fault.FixedFault.{FixedFault}
use Rattle.fixed_core.specs.declared.fault.FixedFault.TheVariants.{Shape, Digits, Range}
use Rattle.fixed_core.specs.Numeral.{Numeral}
use Rattle.fixed_core.specs.Spells.{Spells}
use Rattle.fixed_core.specs.Value.{mantissa_of, raised_by, lowered_by, signed}

-- the value of the numeral is exactly this whole number of units of 10^-18
pub record HasUnits (n : Numeral) (units : ℤ) : Type 0 where
  pub size : ℕ
  pub exact : size * 10 ^ lowered_by n ≡ mantissa_of n * 10 ^ raised_by n
  pub is_sign : units ≡ signed n.negative size

-- Shape if the text spells no numeral, Digits if the numeral has no whole number of units,
-- Range if it has more than 10^36 of them, and else that number
abbrev pub ReadsAs : List ℕ → Result ℤ FixedFault → Type 0
ReadsAs text (Ok units) = (n : Numeral) × (Spells text n × HasUnits n units × (unsigned_abs units ≤ 10 ^ 36))
ReadsAs text (Err Shape) = (n : Numeral) → ¬ Spells text n
ReadsAs text (Err Digits) = (n : Numeral) × (Spells text n × ((units : ℤ) → ¬ HasUnits n units))
ReadsAs text (Err Range) =
    (n : Numeral) × ((units : ℤ) × (Spells text n × HasUnits n units × (10 ^ 36 < unsigned_abs units)))
