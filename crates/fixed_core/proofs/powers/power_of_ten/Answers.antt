use Rattle.std.proofs.Common.{arith}
use Rattle.fixed_core.proofs.PowerFacts.{powers_at_zero}
use Rattle.fixed_core.proofs.powers.power_of_ten.Goals as goal

pub returns : goal.returns
returns c = powers_at_zero 38 c.args.by (omega arith)
