use Rattle.literals_core.proofs.Negation.{negation_twice}
use Rattle.literals_core.proofs.negation_of_a_negation_is_the_literal.Goals as goal

pub returns : goal.returns
returns c = negation_twice
