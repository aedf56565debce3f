use Rattle.ranks_core.specs.Ranks.{task_of}
use Rattle.ranks_core.proofs.FitsFacts.{belong_fit}
use Rattle.learn_core.proofs.LearnFacts.{formula_apart, satisfied}
use Rattle.learn_core.proofs.learning.learn.Goals as goal

pub of-requires : goal.of-requires
of-requires c = belong_fit c.args.problem.now c.args.examples.now c.requires.belong

pub encode-requires-clause-task : goal.encode-requires-clause-task
encode-requires-clause-task c = belong_fit c.args.problem.now c.args.examples.now c.requires.belong

pub answer_of-requires-clause-apart : goal.answer_of-requires-clause-apart
answer_of-requires-clause-apart c =
    formula_apart c.args.encoding (task_of c.args.problem.now c.args.examples.now) c.in_ok-formula.formula c.in_ok-formula.ensures.formula (belong_fit c.args.problem.now c.args.examples.now c.requires.belong)

pub answer_of-requires-clause-sat : goal.answer_of-requires-clause-sat
answer_of-requires-clause-sat c = satisfied c.args.encoding (task_of c.args.problem.now c.args.examples.now) c.in_ok-formula.formula c.in_ok-formula.ensures.formula
