use Rattle.literals_core.proofs.Settled.{settled_by_count, count_of_settled}
use Rattle.literals_core.proofs.settled_by_count_is_settled.Goals as goal

pub returns : goal.returns
returns c = λ set clause distinct. (settled_by_count set clause distinct, count_of_settled set clause)
