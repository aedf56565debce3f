use Rattle.std.proofs.Common.{drop}
use Rattle.written_core.proofs.PutLemmas.{IsPut}
use Rattle.report_core.specs.Text.{numbered}
use Rattle.report_core.specs.DescribedModel.{threshold_line_at}
use Rattle.report_core.proofs.model_text.put_thresholds.Given as goal

abbrev pub invariant-loop-place : goal.invariant-loop-place
invariant-loop-place l = IsPut l.initial.out.items l.out.items (numbered (threshold_line_at l.i l.criterion.scale) 0 (l.profile.thresholds)) (numbered (threshold_line_at l.i l.criterion.scale) l.place (drop l.place (l.profile.thresholds)))
