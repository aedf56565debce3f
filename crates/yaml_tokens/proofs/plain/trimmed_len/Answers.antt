use Rattle.std.proofs.Common.{◌∙◌, ◌-◌, arith}
use Rattle.yaml_tokens.proofs.PlainLemmas.{trim-turn, trim-end}
use Rattle.yaml_tokens.proofs.plain.trimmed_len.Goals as goal

pub loop-len-preserved : goal.loop-len-preserved
loop-len-preserved c =
    (omega arith, c.loop-len.invariant.1 ∙ trim-turn c.args.bytes.now c.loop-len.len (c.loop-len.len - 1) (omega arith) c.loop-len.invariant.0 c.if-bytes-len-eq32.true, λ _. c.if-bytes-len-eq32.true)

pub returns-else-bytes-len-eq32-clause-value : goal.returns-else-bytes-len-eq32-clause-value
returns-else-bytes-len-eq32-clause-value c =
    c.loop-len.invariant.1 ∙ trim-end c.args.bytes.now c.loop-len.len (c.loop-len.len - 1) (omega arith) c.loop-len.invariant.0 c.if-bytes-len-eq32.false
