use Rattle.literals_core.proofs.Raised.{raised_variable, raised_negation, raised_true, raised_false, raised_open, raised_settled, settled_raised, raised_by_count, raised_values}
use Rattle.literals_core.proofs.numbering_may_start_elsewhere.Goals as goal

pub returns-clause-variable : goal.returns-clause-variable
returns-clause-variable c = raised_variable

pub returns-clause-negated : goal.returns-clause-negated
returns-clause-negated c = raised_negation

pub returns-clause-trues : goal.returns-clause-trues
returns-clause-trues c = raised_true

pub returns-clause-falses : goal.returns-clause-falses
returns-clause-falses c = raised_false

pub returns-clause-opens : goal.returns-clause-opens
returns-clause-opens c = raised_open

pub returns-clause-settled : goal.returns-clause-settled
returns-clause-settled c = λ by set clause. (settled_raised by set clause, raised_settled by set clause)

pub returns-clause-counted : goal.returns-clause-counted
returns-clause-counted c = raised_by_count

pub returns-clause-values : goal.returns-clause-values
returns-clause-values c = raised_values
