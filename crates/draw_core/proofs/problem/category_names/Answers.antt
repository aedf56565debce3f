use Rattle.draw_core.proofs.NameFacts.{some_categories_new}
use Rattle.draw_core.proofs.problem.category_names.Goals as goal

pub numbered_names-requires-clause-differ : goal.numbered_names-requires-clause-differ
numbered_names-requires-clause-differ c = some_categories_new c.args.count c.requires
