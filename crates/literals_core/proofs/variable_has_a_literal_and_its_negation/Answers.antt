use Rattle.literals_core.proofs.Negation.{variable_of-negation, negation_differs, same_variable}
use Rattle.literals_core.proofs.variable_has_a_literal_and_its_negation.Goals as goal

pub returns-clause-same : goal.returns-clause-same
returns-clause-same c = variable_of-negation

pub returns-clause-two : goal.returns-clause-two
returns-clause-two c = negation_differs

pub returns-clause-only : goal.returns-clause-only
returns-clause-only c = same_variable
