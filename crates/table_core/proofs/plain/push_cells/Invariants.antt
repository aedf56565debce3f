use Rattle.std.proofs.Common.{◌≡◌, ◌++◌, take}
use Rattle.std.specs.List.{flat_map}
use Rattle.table_core.specs.Written.{next_text}
use Rattle.table_core.proofs.plain.push_cells.Given as goal

abbrev pub invariant-loop-k : goal.invariant-loop-k
invariant-loop-k g l = l.text.items ≡ l.initial.text.items ++ flat_map next_text (take l.k (g.C.Cells.cells l.cells))
