use Rattle.std.proofs.Common.{drop}
use Rattle.written_core.proofs.PutLemmas.{IsPut}
use Rattle.report_core.specs.Text.{numbered}
use Rattle.report_core.specs.Described.{category_line}
use Rattle.report_core.proofs.problem_text.put_categories.Given as goal

abbrev pub invariant-loop-j : goal.invariant-loop-j
invariant-loop-j l = IsPut l.initial.out.items l.out.items (numbered category_line 0 (l.problem.categories)) (numbered category_line l.j (drop l.j (l.problem.categories)))
