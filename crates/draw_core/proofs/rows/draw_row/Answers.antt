use Rattle.std.proofs.Common.{length, ap, ◌∙◌}
use Rattle.draw_core.proofs.RowFacts.{grades-long}
use Rattle.draw_core.proofs.rows.draw_row.Goals as goal

pub sort-requires-clause-grades : goal.sort-requires-clause-grades
sort-requires-clause-grades c =
    ap length c.as_slice.ensures.value ∙ grades-long c.args.problem.now c.draw_grades.new.grades.items c.in_ok-draw_grades.ensures.belong
