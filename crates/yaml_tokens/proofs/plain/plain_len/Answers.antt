use Rattle.std.proofs.Common.{◌∙◌, sym}
use Rattle.yaml_tokens.proofs.PlainLemmas.{plain-turn}
use Rattle.yaml_tokens.proofs.plain.plain_len.Goals as goal

pub loop-at-preserved : goal.loop-at-preserved
loop-at-preserved c =
    c.loop-at.invariant
    ∙ plain-turn c.args.depth c.args.bytes.now c.loop-at.at c.loop-at-test.true (sym c.ends_plain.ensures ∙ c.if-ends_plain.false) (sym c.breaks_plain.ensures ∙ c.if-breaks_plain.false)
