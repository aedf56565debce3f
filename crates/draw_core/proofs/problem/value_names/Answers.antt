use Rattle.draw_core.proofs.NameFacts.{values_new}
use Rattle.draw_core.proofs.problem.value_names.Goals as goal

pub numbered_names-requires-clause-differ : goal.numbered_names-requires-clause-differ
numbered_names-requires-clause-differ c = values_new
