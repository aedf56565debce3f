use Rattle.std.proofs.Common.{◌≡◌, drop}
use Rattle.yaml_tokens.specs.Tokens.{is_spaces_or_comment}
use Rattle.yaml_tokens.proofs.lines.is_spaces_or_comment.Given as goal

abbrev pub invariant-loop-b : goal.invariant-loop-b
invariant-loop-b l = is_spaces_or_comment (drop l.b-index l.bytes) ≡ is_spaces_or_comment l.bytes
