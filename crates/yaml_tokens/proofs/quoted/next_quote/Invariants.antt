use Rattle.std.proofs.Common.{◌≡◌, take, drop, false}
use Rattle.yaml_tokens.specs.Quotes.{single_from, after_front}
use Rattle.yaml_tokens.proofs.quoted.next_quote.Given as goal

abbrev pub invariant-loop-at : goal.invariant-loop-at
invariant-loop-at l = single_from false l.bytes ≡ after_front (take l.at l.bytes) (single_from false (drop l.at l.bytes))
