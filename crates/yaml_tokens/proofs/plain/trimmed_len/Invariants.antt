use Rattle.std.proofs.Common.{◌≡◌, ◌≤◌, length, take, get_or, ◌<◌}
use Rattle.yaml_tokens.specs.Tokens.{without_end}
use Rattle.yaml_tokens.proofs.plain.trimmed_len.Given as goal

abbrev pub invariant-loop-len : goal.invariant-loop-len
invariant-loop-len l = (l.len ≤ length l.bytes) × (without_end l.bytes ≡ without_end (take l.len l.bytes)) × (l.len < length l.bytes → get_or l.bytes l.len 0 ≡ 32)

abbrev pub decreases-loop-len : goal.decreases-loop-len
decreases-loop-len l = l.len
