use Rattle.draw_core.proofs.FamilyFacts.{has-model}
use Rattle.draw_core.proofs.laws.drawn_examples_have_a_model.Goals as goal

pub returns : goal.returns
returns c = has-model
