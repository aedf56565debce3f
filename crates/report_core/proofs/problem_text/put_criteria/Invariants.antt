use Rattle.std.proofs.Common.{drop}
use Rattle.written_core.proofs.PutLemmas.{IsPut}
use Rattle.report_core.specs.Text.{numbered}
use Rattle.report_core.specs.Described.{criterion_line}
use Rattle.report_core.proofs.problem_text.put_criteria.Given as goal

abbrev pub invariant-loop-i : goal.invariant-loop-i
invariant-loop-i l = IsPut l.initial.out.items l.out.items (numbered criterion_line 0 (l.problem.criteria)) (numbered criterion_line l.i (drop l.i (l.problem.criteria)))
