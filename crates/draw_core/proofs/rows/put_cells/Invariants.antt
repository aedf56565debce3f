use Rattle.std.proofs.Common.{◌≡◌, ◌++◌, take}
use Rattle.std.specs.List.{flat_map}
use Rattle.table_core.specs.Written.{next_text}
use Rattle.draw_core.specs.DrawnTable.{cells_of}
use Rattle.draw_core.proofs.rows.put_cells.Given as goal

abbrev pub invariant-loop-i : goal.invariant-loop-i
invariant-loop-i l = l.out.items ≡ l.initial.out.items ++ flat_map next_text (take l.i (cells_of l.problem l.grades))
