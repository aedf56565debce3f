use Rattle.std.proofs.Common.{◌≡◌, take, drop}
use Rattle.yaml_tokens.specs.Quotes.{double_from, after_front, in_text}
use Rattle.yaml_tokens.proofs.quoted.next_mark.Given as goal

abbrev pub invariant-loop-at : goal.invariant-loop-at
invariant-loop-at l = double_from in_text l.bytes ≡ after_front (take l.at l.bytes) (double_from in_text (drop l.at l.bytes))
