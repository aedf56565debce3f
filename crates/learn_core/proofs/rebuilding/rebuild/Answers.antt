use Rattle.std.proofs.Common.{sym, subst}
use Rattle.ranks_core.specs.Ranks.{task_of}
use Rattle.search_core.specs.Values.{value_at}
use Rattle.learn_core.specs.Satisfies.{SatisfiesOne}
use Rattle.learn_core.proofs.RebuildFacts.{one_nested, one_apart}
use Rattle.learn_core.proofs.rebuilding.rebuild.Goals as goal

pub nested_model-requires-clause-nested : goal.nested_model-requires-clause-nested
nested_model-requires-clause-nested c =
    let task = task_of c.args.problem.now c.args.examples.now in
    one_nested task (value_at c.as_slice.result.now) (subst (λ vs. SatisfiesOne (task_of c.args.problem.now c.args.examples.now) (value_at vs)) (sym c.as_slice.ensures) c.requires.satisfied)

pub nested_model-requires-clause-apart : goal.nested_model-requires-clause-apart
nested_model-requires-clause-apart c =
    let task = task_of c.args.problem.now c.args.examples.now in
    one_apart task (value_at c.as_slice.result.now) (subst (λ vs. SatisfiesOne (task_of c.args.problem.now c.args.examples.now) (value_at vs)) (sym c.as_slice.ensures) c.requires.satisfied)
