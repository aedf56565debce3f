-- The value of a number text, in units of 10^-18.
use Rattle.std.specs.Prelude.{ℕ, ◌+◌, ◌*◌, ◌/◌, ◌%◌, ◌^◌, List, ◌++◌, length, Bool, ◌==◌, nat_le, Option, Some, None}
use Rattle.std.specs.Prelude.{Result, Ok, Err, ℤ, pos, neg_ℤ, if◌then◌else◌}
use Rattle.std.specs.Str.Parse.{digits_value}
use Rattle.fixed_core.specs.declared.fault.FixedFault.{FixedFault}
use Rattle.fixed_core.specs.declared.fault.FixedFault.TheVariants.{Shape, Digits, Range}
use Rattle.fixed_core.specs.Numeral.{Numeral, numeral_of}

-- the units of 10^-18 are the mantissa times ten to `raised_by`, divided by ten to `lowered_by`
abbrev pub raised_by : Numeral → ℕ
raised_by n = 18 + (if n.lowers then 0 else digits_value 10 n.exponent)

abbrev pub lowered_by : Numeral → ℕ
lowered_by n = length n.fraction + (if n.lowers then digits_value 10 n.exponent else 0)

-- the digits before and after the point, as one whole number
abbrev pub mantissa_of : Numeral → ℕ
mantissa_of n = digits_value 10 (n.whole ++ n.fraction)

-- a number with a sign
abbrev pub signed : Bool → ℕ → ℤ
signed negative n = if negative then neg_ℤ (pos n) else pos n

-- the quotient, if the division leaves nothing and the quotient is at most 10^36
unfoldable pub fixed_quotient : Bool → ℕ → ℕ → Result ℤ FixedFault
fixed_quotient negative scaled divisor =
    if scaled % divisor == 0 then (if nat_le (scaled / divisor) (10 ^ 36) then Ok (signed negative (scaled / divisor))
    else Err Range)
    else Err Digits

-- the units of 10^-18 of a numeral, or why it has none
unfoldable pub fixed_of_numeral : Numeral → Result ℤ FixedFault
fixed_of_numeral n = fixed_quotient n.negative (mantissa_of n * 10 ^ raised_by n) (10 ^ lowered_by n)

-- without a numeral the fault is Shape
abbrev pub fixed_or_shape : Option Numeral → Result ℤ FixedFault
fixed_or_shape None = Err Shape
fixed_or_shape (Some n) = fixed_of_numeral n

-- the number of a text in units of 10^-18, or the first fault that holds of it
unfoldable pub fixed_of : List ℕ → Result ℤ FixedFault
fixed_of text = fixed_or_shape (numeral_of text)
