use Rattle.literals_core.proofs.Values.{negation_flips}
use Rattle.literals_core.proofs.literal_and_its_negation_have_opposite_truth.Goals as goal

pub returns : goal.returns
returns c = negation_flips
