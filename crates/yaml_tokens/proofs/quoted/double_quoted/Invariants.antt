use Rattle.std.proofs.Common.{◌≡◌, ◌≤◌, ◌+◌, ◌-◌, length, drop}
use Rattle.std.specs.Prelude.{string_bytes}
use Rattle.std.specs.Str.{IsUtf8}
use Rattle.yaml_tokens.specs.Quotes.{double_from, after_front, in_text}
use Rattle.yaml_tokens.proofs.quoted.double_quoted.Given as goal

abbrev pub invariant-loop-turn : goal.invariant-loop-turn
invariant-loop-turn l = record {
  utf8 : IsUtf8 l.left;
  within : length l.left + l._turn ≤ length l.rest;
  suffix : drop (length l.rest - length l.left) l.rest ≡ l.left;
  read : after_front (string_bytes l.text) (double_from in_text l.left) ≡ double_from in_text l.rest;
}
