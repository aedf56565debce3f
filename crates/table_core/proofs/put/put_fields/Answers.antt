use Rattle.std.proofs.Common.{◌++◌, ◌∷◌, []}
use Rattle.std.specs.List.{flat_map}
use Rattle.lists_core.proofs.PutsFacts.{puts-then, puts-cut, puts-failed}
use Rattle.table_core.specs.Written.{field_text, next_text}
use Rattle.table_core.proofs.WrittenFacts.{record_text-between}
use Rattle.table_core.proofs.put.put_fields.Goals as goal

pub returns-in_err-put_field : goal.returns-in_err-put_field
returns-in_err-put_field g c =
    rw (record_text-between c.args.name.now (g.C.Cells.cells c.args.cells.now) c.args.category.now)
    (puts-failed _ _ _ c.from_residual.result c.from_residual.ensures.0 (puts-cut _ _ _ _ c.in_err-put_field.ensures))

pub returns-in_err-put_cells : goal.returns-in_err-put_cells
returns-in_err-put_cells g c =
    rw (record_text-between c.args.name.now (g.C.Cells.cells c.args.cells.now) c.args.category.now)
    (puts-then _ _ _ c.in_ok-put_field.ensures _ _ c.from_residual-in_err-put_cells.result
    (puts-failed _ _ _ c.from_residual-in_err-put_cells.result c.from_residual-in_err-put_cells.ensures.0 (puts-cut _ _ _ _ c.in_err-put_cells.ensures)))

pub returns : goal.returns
returns g c =
    let name = c.args.name.now in
    let middle = flat_map next_text (g.C.Cells.cells c.args.cells.now) in
    let end = next_text c.args.category.now ++ 10 ∷ [] in
    rw (record_text-between name (g.C.Cells.cells c.args.cells.now) c.args.category.now)
    (puts-then c.args.out.now.items c.put_field.new.out.items (field_text name) c.in_ok-put_field.ensures _ (middle ++ end) c.put_last.result
    (puts-then c.put_field.new.out.items c.put_cells.new.out.items middle c.in_ok-put_cells.ensures _ end c.put_last.result c.put_last.ensures))
