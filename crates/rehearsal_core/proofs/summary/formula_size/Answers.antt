use Rattle.ranks_core.proofs.FitsFacts.{belong_fit}
use Rattle.rehearsal_core.proofs.summary.formula_size.Goals as goal

pub of-requires : goal.of-requires
of-requires c = belong_fit c.args.problem.now c.args.examples.now c.requires

pub encode-requires-clause-task : goal.encode-requires-clause-task
encode-requires-clause-task c = belong_fit c.args.problem.now c.args.examples.now c.requires
