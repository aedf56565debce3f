use Rattle.std.proofs.Common.{ap, ◌∙◌, subst}
use Rattle.model_core.specs.Model.{IsThreshold}
use Rattle.written_core.specs.Document.{scalar_text}
use Rattle.model_text_core.specs.ModelText.{threshold_scalar}
use Rattle.written_core.proofs.PutLemmas.{puts-as}
use Rattle.model_text_core.proofs.PutFacts.{grade-scalar}
use Rattle.model_text_core.proofs.thresholds.put_threshold.Goals as goal

pub put_quoted_grade-requires : goal.put_quoted_grade-requires
put_quoted_grade-requires c = subst (IsThreshold c.args.criterion.now.scale) c.in-Some.is c.requires

pub returns-in-Some : goal.returns-in-Some
returns-in-Some c =
    puts-as _ _ _ _ _ (ap (λ t. scalar_text (threshold_scalar c.args.criterion.now.scale t)) c.in-Some.is ∙ grade-scalar c.args.criterion.now.scale c.in-Some.grade) c.put_quoted_grade.ensures

pub returns-in-None : goal.returns-in-None
returns-in-None c = puts-as _ _ _ _ _ (ap (λ t. scalar_text (threshold_scalar c.args.criterion.now.scale t)) c.in-None.is) c.put_text.ensures
