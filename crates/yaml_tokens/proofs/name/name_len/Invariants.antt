use Rattle.std.proofs.Common.{◌≡◌, ℕ, ◌<◌, get_or, take, drop}
use Rattle.yaml_tokens.specs.Tokens.{name_at}
use Rattle.yaml_tokens.proofs.NameLemmas.{after_name}
use Rattle.yaml_tokens.proofs.name.name_len.Given as goal

abbrev pub invariant-loop-at : goal.invariant-loop-at
invariant-loop-at l = record {
  ascii : (k : ℕ) → k < l.at → get_or l.bytes k 0 < 128;
  read : after_name (take l.at l.bytes) (name_at (drop l.at l.bytes)) ≡ name_at l.bytes;
}
