use Rattle.std.proofs.Common.{◌+◌, [], get_or, sym, ◌∙◌, arith}
use Rattle.search_core.specs.Values.{value_at}
use Rattle.learn_core.proofs.ThresholdFacts.{passing_next, passing_here, passing_end}
use Rattle.learn_core.proofs.profiles.threshold.Goals as goal

pub loop-k-preserved : goal.loop-k-preserved
loop-k-preserved c = passing_next (λ k. value_at c.args.values.now (c.args.first + k)) (get_or c.args.ranks.now.grades c.args.i []) c.loop-k.k (omega arith) (sym c.value_at.ensures ∙ c.if-value_at.false) c.loop-k.invariant

pub returns-then-value_at : goal.returns-then-value_at
returns-then-value_at c = passing_here (λ k. value_at c.args.values.now (c.args.first + k)) (get_or c.args.ranks.now.grades c.args.i []) c.loop-k.k c.grade.result (sym c.value_at.ensures ∙ c.if-value_at.true) c.grade.ensures c.loop-k.invariant

pub returns : goal.returns
returns c = passing_end (λ k. value_at c.args.values.now (c.args.first + k)) (get_or c.args.ranks.now.grades c.args.i []) c.loop-k.k (omega arith) c.loop-k.invariant
