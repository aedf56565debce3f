use Rattle.literals_core.specs.Literal.{negation}
use Rattle.literals_core.proofs.Truth.{tested_true, true_tested, open_is, is_open}
use Rattle.literals_core.proofs.computed_truth_is_truth.Goals as goal

pub returns-clause-trues : goal.returns-clause-trues
returns-clause-trues c = λ set l. (tested_true set l, true_tested set l)

pub returns-clause-falses : goal.returns-clause-falses
returns-clause-falses c = λ set l. (tested_true set (negation l), true_tested set (negation l))

pub returns-clause-opens : goal.returns-clause-opens
returns-clause-opens c = λ set clause l. (open_is set clause l, λ h. is_open set clause l h.0 h.1)
