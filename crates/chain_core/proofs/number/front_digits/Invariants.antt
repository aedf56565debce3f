use Rattle.std.proofs.Common.{◌≡◌, ◌-◌, ◌≤◌, length, take, min}
use Rattle.std.specs.Str.Parse.{AllDigits, digits_value}
use Rattle.chain_core.proofs.number.front_digits.Given as goal

abbrev pub invariant-loop-len : goal.invariant-loop-len
invariant-loop-len l = record {
  within : l.len ≤ length l.text;
  digits : AllDigits 10 (take l.len l.text);
  value : l.value ≡ min (digits_value 10 (take l.len l.text)) 4294967296;
}

abbrev pub decreases-loop-len : goal.decreases-loop-len
decreases-loop-len l = length l.text - l.len
