use Rattle.lists_core.proofs.PutsFacts.{puts-then, puts-cut, puts-failed}
use Rattle.draw_core.specs.DrawnTable.{drawn_table}
use Rattle.draw_core.proofs.rows.draw_table.Goals as goal

pub returns-in_err-put_header : goal.returns-in_err-put_header
unfolding drawn_table
returns-in_err-put_header c = puts-failed _ _ _ c.from_residual.result c.from_residual.ensures.0 (puts-cut _ _ _ _ c.in_err-put_header.ensures.text)

pub returns : goal.returns
unfolding drawn_table
returns c = puts-then _ _ _ c.in_ok-put_header.ensures.text _ _ c.put_rows.result c.put_rows.ensures
