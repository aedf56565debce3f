use Rattle.std.proofs.Common.{◌<◌, List, ℕ, length, sym, subst}
use Rattle.problem_core.specs.Grade.{IsGrade}
use Rattle.problem_core.specs.declared.criterion.Scale.TheVariants.{Named}
use Rattle.draw_core.specs.Choice.{choice_count}
use Rattle.draw_core.proofs.GradeFacts.{named-grade}
use Rattle.draw_core.proofs.choice.chosen.Goals as goal

pub returns-in-Named-clause-grade : goal.returns-in-Named-clause-grade
returns-in-Named-clause-grade c =
    let names : List (List ℕ) = c.in-Named.names in
    let few : c.args.choice < length names = subst (λ s. c.args.choice < choice_count s) c.in-Named.is c.requires.choice in
    subst (λ s. IsGrade s c.place.result) (sym c.in-Named.is) (subst (IsGrade (Named names)) (sym c.place.ensures) (named-grade names c.args.choice c.len-count.ensures.distinct few))
