use Rattle.fixed_core.proofs.PowerFacts.{shifted_far}
use Rattle.fixed_core.proofs.mantissa.shifted.Goals as goal

pub returns-then-by : goal.returns-then-by
returns-then-by c = shifted_far c.args.value c.args.by c.if-value-eq0.false c.if-by.true
