use Rattle.std.proofs.Common.{◌≡◌, rules}
use Rattle.problem_core.specs.declared.criterion.Scale.TheVariants.{Rising}
use Rattle.draw_core.specs.Choice.{chosen}
use Rattle.draw_core.proofs.GradeFacts.{rising-grade}
use Rattle.draw_core.proofs.choice.rising_step.Goals as goal

pub returns-clause-grade : goal.returns-clause-grade
returns-clause-grade c =
    let is : c.number_of.result ≡ chosen (Rising c.args.bounds) c.args.choice = search rules in
    rising-grade c.args.bounds c.requires.bounds c.args.choice c.number_of.result c.requires.step is c.number_of.ensures.few
