use Rattle.std.proofs.Common.{◌≡◌, true, get_or, subst}
use Rattle.std.proofs.lemmas.Option.{slice_get-get_or}
use Rattle.problem_core.specs.Criterion.{is_scale}
use Rattle.problem_core.specs.declared.criterion.Criterion.{Criterion}
use Rattle.draw_core.specs.Choice.{no_criterion}
use Rattle.draw_core.proofs.GradeFacts.{scale-good}
use Rattle.draw_core.proofs.choice.scale_at.Goals as goal

pub returns-clause-good : goal.returns-clause-good
returns-clause-good c =
    let criteria = c.args.problem.now.criteria in
    let here = slice_get-get_or criteria c.args.i no_criterion c.requires.place in
    let same : get_or criteria c.args.i no_criterion ≡ c.criterion.result.now = cc in
    subst (λ (x : Criterion). is_scale x.scale ≡ true) same (scale-good criteria c.args.i c.criteria_count-count.ensures.facts.good_criteria c.requires.place)
