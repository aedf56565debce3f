use Rattle.std.proofs.Common.{drop, length}
use Rattle.written_core.proofs.PutLemmas.{IsPut}
use Rattle.report_core.specs.Text.{numbered}
use Rattle.report_core.specs.DescribedModel.{boundary_line_at}
use Rattle.report_core.proofs.model_text.put_boundaries.Given as goal

abbrev pub invariant-loop-place : goal.invariant-loop-place
invariant-loop-place l = IsPut l.initial.out.items l.out.items (numbered (boundary_line_at (length l.problem.criteria)) 0 (l.model.coalitions)) (numbered (boundary_line_at (length l.problem.criteria)) l.place (drop l.place (l.model.coalitions)))
