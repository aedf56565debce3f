use Rattle.std.proofs.Common.{◌≤◌, sym, subst}
use Rattle.draw_core.proofs.StepFacts.{part-made, part-within}
use Rattle.draw_core.proofs.choice.part_of.Goals as goal

pub returns-clause-part : goal.returns-clause-part
returns-clause-part c = part-made c.args.range c.args.gap c.args.thousandths c.from-c.result c.from-c.ensures

pub returns-clause-within : goal.returns-clause-within
returns-clause-within c =
    subst (λ x. x ≤ c.args.range) (sym (part-made c.args.range c.args.gap c.args.thousandths c.from-c.result c.from-c.ensures))
    (part-within c.args.range c.args.gap c.args.thousandths c.requires.step)
