use Rattle.ranks_core.proofs.FitsFacts.{belong_fit}
use Rattle.lincs_top.proofs.formulas.formula_of_examples.Goals as goal

pub of-requires : goal.of-requires
of-requires c = belong_fit c.args.problem.now c.args.examples.now c.requires

pub formula_of_ranks-requires-clause-task : goal.formula_of_ranks-requires-clause-task
formula_of_ranks-requires-clause-task c = belong_fit c.args.problem.now c.args.examples.now c.requires
