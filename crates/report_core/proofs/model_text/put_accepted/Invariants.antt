use Rattle.std.proofs.Common.{drop}
use Rattle.written_core.proofs.PutLemmas.{IsPut}
use Rattle.report_core.specs.DescribedModel.{accepted_lines}
use Rattle.report_core.proofs.model_text.put_accepted.Given as goal

abbrev pub invariant-loop-i : goal.invariant-loop-i
invariant-loop-i l =
    IsPut l.initial.out.items l.out.items (accepted_lines 0 l.problem.criteria l.model.profiles) (accepted_lines l.i (drop l.i l.problem.criteria) (drop l.i l.model.profiles))
