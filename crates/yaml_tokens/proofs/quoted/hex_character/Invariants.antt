use Rattle.std.proofs.Common.{◌≡◌, ◌≤◌, ◌<◌, ◌-◌, ◌^◌, length, drop, get_or}
use Rattle.yaml_tokens.specs.Quotes.{double_from, in_number}
use Rattle.yaml_tokens.specs.Quoted.{digits_from}
use Rattle.yaml_tokens.proofs.quoted.hex_character.Given as goal

abbrev pub invariant-loop-at : goal.invariant-loop-at
invariant-loop-at l = record {
  within : l.at ≤ length l.bytes;
  small : l.value < 16 ^ l.at;
  ascii : 0 < l.at → get_or l.bytes (l.at - 1) 0 < 128;
  read : digits_from (l.count - l.at) l.value (drop l.at l.bytes) ≡ double_from (in_number l.count 0) l.bytes;
}
