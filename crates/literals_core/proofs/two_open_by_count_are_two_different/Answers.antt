use Rattle.literals_core.proofs.Settled.{two_by_count, count_of_two}
use Rattle.literals_core.proofs.two_open_by_count_are_two_different.Goals as goal

pub returns : goal.returns
returns c = λ set clause distinct. (two_by_count set clause distinct, count_of_two set clause)
