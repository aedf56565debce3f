use Rattle.std.proofs.Common.{◌∙◌, sym}
use Rattle.yaml_tokens.proofs.QuotesLemmas.{double-turn}
use Rattle.yaml_tokens.proofs.quoted.next_mark.Goals as goal

pub loop-at-preserved : goal.loop-at-preserved
loop-at-preserved c = c.loop-at.invariant ∙ double-turn c.args.bytes.now c.loop-at.at c.loop-at-test.true (sym c.if-is_mark.ensures)
