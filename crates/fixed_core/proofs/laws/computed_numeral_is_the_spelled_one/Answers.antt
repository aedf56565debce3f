use Rattle.fixed_core.proofs.Spelled.{spelled_numeral}
use Rattle.fixed_core.proofs.laws.computed_numeral_is_the_spelled_one.Goals as goal

pub returns : goal.returns
returns c = λ n. spelled_numeral c.args.text.now n
