use Rattle.std.proofs.Common.{inl, inr}
use Rattle.std.proofs.lemmas.Result.{err_from_is_err_and}
use Rattle.table_core.proofs.BelongFacts.{examples_belong}
use Rattle.table_core.proofs.ExampleFacts.{step, finish, refused}
use Rattle.table_core.proofs.classified.examples.Goals as goal

pub loop-examples-preserved : goal.loop-examples-preserved
loop-examples-preserved c = step c.args.problem.now c.args.table c.loop-examples.table c.advance.new.self c.loop-examples.examples c.add_current.new.examples c.in_ok-advance.field-0 c.loop-examples.invariant
    c.in_ok-advance.ensures.answer c.in_ok-advance.ensures.found c.if-branch.true c.in_ok-advance.ensures.table c.in_ok-add_current.ensures

pub returns-clause-answer : goal.returns-clause-answer
returns-clause-answer c = finish c.args.problem.now c.args.table c.loop-examples.table c.loop-examples.examples c.advance.new.self.current c.in_ok-advance.field-0 c.loop-examples.invariant
    c.in_ok-advance.ensures.answer c.in_ok-advance.ensures.found c.if-branch.false

pub returns-clause-belong : goal.returns-clause-belong
returns-clause-belong c = examples_belong c.args.problem.now c.args.table c.loop-examples.examples
    (finish c.args.problem.now c.args.table c.loop-examples.table c.loop-examples.examples c.advance.new.self.current c.in_ok-advance.field-0 c.loop-examples.invariant
    c.in_ok-advance.ensures.answer c.in_ok-advance.ensures.found c.if-branch.false)

pub returns-in_err-advance-clause-answer : goal.returns-in_err-advance-clause-answer
returns-in_err-advance-clause-answer c =
    let p = err_from_is_err_and c.from_residual.result c.from_residual.ensures.1 in
    rw (p.1, p.2) (elim c.in_err-advance.ensures.answer [
      | inl none ↦ inl none
      | inr fault ↦ inr (refused c.args.problem.now c.args.table c.loop-examples.table c.loop-examples.examples c.in_err-advance.field-0.0 c.loop-examples.invariant fault)
    ])
