use Rattle.std.proofs.Common.{◌≡◌, take, drop}
use Rattle.yaml_tokens.specs.Tokens.{plain}
use Rattle.yaml_tokens.specs.Quotes.{after_front}
use Rattle.yaml_tokens.proofs.plain.plain_len.Given as goal

abbrev pub invariant-loop-at : goal.invariant-loop-at
invariant-loop-at l = plain l.depth l.bytes ≡ after_front (take l.at l.bytes) (plain l.depth (drop l.at l.bytes))
