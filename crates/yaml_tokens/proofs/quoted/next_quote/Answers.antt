use Rattle.std.proofs.Common.{◌∙◌}
use Rattle.yaml_tokens.proofs.QuotesLemmas.{single-turn, single-stop}
use Rattle.yaml_tokens.proofs.quoted.next_quote.Goals as goal

pub loop-at-preserved : goal.loop-at-preserved
loop-at-preserved c = c.loop-at.invariant ∙ single-turn c.args.bytes.now c.loop-at.at c.loop-at-test.true c.if-bytes-at-eq39.false

pub returns-then-bytes-at-eq39-clause-value : goal.returns-then-bytes-at-eq39-clause-value
returns-then-bytes-at-eq39-clause-value c = c.loop-at.invariant ∙ single-stop c.args.bytes.now c.loop-at.at c.loop-at-test.true c.if-bytes-at-eq39.true
