use Rattle.std.proofs.Common.{drop}
use Rattle.written_core.proofs.PutLemmas.{IsPut}
use Rattle.report_core.specs.Text.{numbered}
use Rattle.report_core.specs.Described.{count_line}
use Rattle.report_core.proofs.table_text.put_category_counts.Given as goal

abbrev pub invariant-loop-j : goal.invariant-loop-j
invariant-loop-j l = IsPut l.initial.out.items l.out.items (numbered count_line 0 (l.counts)) (numbered count_line l.j (drop l.j (l.counts)))
