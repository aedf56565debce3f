use Rattle.std.proofs.Common.{◌≡◌, ◌≤◌, ◌+◌, ◌-◌, length, drop, false}
use Rattle.std.specs.Prelude.{string_bytes}
use Rattle.std.specs.Str.{IsUtf8}
use Rattle.yaml_tokens.specs.Quotes.{single_from, after_front}
use Rattle.yaml_tokens.proofs.quoted.single_quoted.Given as goal

abbrev pub invariant-loop-turn : goal.invariant-loop-turn
invariant-loop-turn l = record {
  utf8 : IsUtf8 l.left;
  within : length l.left + l._turn ≤ length l.rest;
  suffix : drop (length l.rest - length l.left) l.rest ≡ l.left;
  read : after_front (string_bytes l.text) (single_from false l.left) ≡ single_from false l.rest;
}
