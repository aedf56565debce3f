use Rattle.std.specs.Prelude.{IfOk, IfErr, OnOk}
use Rattle.literals_core.specs.declared.encoding.Encoding.TheVariants.{Separation}
use Rattle.encoding_rules.specs.Encodings.{formula_of, HasFormula}
use Rattle.ranks_core.specs.Ranks.{task_of}
use Rattle.search_core.specs.Bounds.{PropagationEnds}
use Rattle.search_core.specs.Outcomes.{IsAtLimit}
use Rattle.learn_core.specs.Learning.{LearnFaultOf}
use Rattle.rehearsal_core.specs.Outcome.{IfLearned, IfLimit}
use Rattle.rehearsal_core.specs.Rehearsed.{IsSummary}
use Rattle.draw_core.proofs.FamilyFacts.{has-model}
use Rattle.rehearsal_core.proofs.DrawnFacts.{problem_is, examples_are, of_same}
use Rattle.rehearsal_core.proofs.rehearsal.rehearse.Goals as goal

pub learn_again-requires-clause-some_model : goal.learn_again-requires-clause-some_model
learn_again-requires-clause-some_model c =
    has-model c.in_ok-problem.problem _ c.in_ok-model.model c.in_ok-examples.examples
    c.in_ok-problem.ensures.facts c.in_ok-model.ensures.drawn c.in_ok-model.ensures.belongs c.in_ok-examples.ensures.restored

pub returns-clause-learned : goal.returns-clause-learned
returns-clause-learned c =
    of_same (λ p e. IfOk c.learn_again.result (IfLearned (IsSummary p e))) _ _ _ _
    (problem_is _ _ _ _ c.in_ok-problem.ensures.drawn) (examples_are _ _ _ _ _ _ _ c.in_ok-problem.ensures.drawn c.in_ok-model.ensures.drawn c.in_ok-examples.ensures.drawn)
    c.learn_again.ensures.learned

pub returns-clause-at_limit : goal.returns-clause-at_limit
returns-clause-at_limit c =
    of_same (λ p e. IfOk c.learn_again.result (IfLimit (IsAtLimit (formula_of Separation (task_of p e)) 100000))) _ _ _ _
    (problem_is _ _ _ _ c.in_ok-problem.ensures.drawn) (examples_are _ _ _ _ _ _ _ c.in_ok-problem.ensures.drawn c.in_ok-model.ensures.drawn c.in_ok-examples.ensures.drawn)
    c.learn_again.ensures.at_limit

pub returns-clause-undecided : goal.returns-clause-undecided
returns-clause-undecided c =
    of_same (λ p e. IfOk c.learn_again.result (IfLimit (λ _. PropagationEnds (formula_of Separation (task_of p e)) → ⊥))) _ _ _ _
    (problem_is _ _ _ _ c.in_ok-problem.ensures.drawn) (examples_are _ _ _ _ _ _ _ c.in_ok-problem.ensures.drawn c.in_ok-model.ensures.drawn c.in_ok-examples.ensures.drawn)
    c.learn_again.ensures.undecided

pub returns-clause-small : goal.returns-clause-small
returns-clause-small c =
    of_same (λ p e. OnOk c.learn_again.result (HasFormula Separation (task_of p e))) _ _ _ _
    (problem_is _ _ _ _ c.in_ok-problem.ensures.drawn) (examples_are _ _ _ _ _ _ _ c.in_ok-problem.ensures.drawn c.in_ok-model.ensures.drawn c.in_ok-examples.ensures.drawn)
    c.learn_again.ensures.small

pub returns-clause-fault : goal.returns-clause-fault
returns-clause-fault c =
    of_same (λ p e. IfErr c.learn_again.result (LearnFaultOf Separation (task_of p e))) _ _ _ _
    (problem_is _ _ _ _ c.in_ok-problem.ensures.drawn) (examples_are _ _ _ _ _ _ _ c.in_ok-problem.ensures.drawn c.in_ok-model.ensures.drawn c.in_ok-examples.ensures.drawn)
    c.learn_again.ensures.fault
