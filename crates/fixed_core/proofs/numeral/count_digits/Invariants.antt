use Rattle.std.proofs.Common.{◌≡◌, ◌%◌, ◌^◌, take}
use Rattle.std.specs.Str.Parse.{AllDigits, digits_value_after}
use Rattle.fixed_core.proofs.numeral.count_digits.Given as goal

abbrev pub invariant-loop-k : goal.invariant-loop-k
invariant-loop-k l = record { digits : AllDigits 10 (take l.k l.text); low : l.low ≡ digits_value_after 10 l.fn.start (take l.k l.text) % 2 ^ 64 }
