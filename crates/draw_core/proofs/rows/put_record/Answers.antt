use Rattle.std.proofs.Common.{◌≡◌, ℕ, List, [], ◌∷◌, ◌++◌, ◌+◌, sym, ◌∙◌, subst}
use Rattle.std.specs.Prelude.{codes, slice_index_or}
use Rattle.std.specs.List.{flat_map}
use Rattle.std.proofs.lemmas.Option.{get_or_from_slice_get}
use Rattle.lists_core.specs.Puts.{Puts}
use Rattle.lists_core.proofs.PutsFacts.{puts-then, puts-cut, puts-failed}
use Rattle.table_core.specs.Written.{field_text, next_text}
use Rattle.table_core.proofs.WrittenFacts.{record_text-between}
use Rattle.draw_core.specs.DrawnProblem.{numbered}
use Rattle.draw_core.specs.DrawnTable.{cells_of}
use Rattle.draw_core.proofs.rows.put_record.Goals as goal

pub returns-in_err-put_name : goal.returns-in_err-put_name
returns-in_err-put_name c =
    let name : List ℕ = numbered (codes "Alternative ") (c.args.row + 1) in
    let category : List ℕ = slice_index_or c.args.problem.now.categories c.args.category [] in
    subst (Puts c.args.out.now.items c.put_name.new.out.items c.from_residual.result) (sym (record_text-between name (cells_of c.args.problem.now c.args.grades.now) category))
    (puts-failed _ _ _ c.from_residual.result c.from_residual.ensures.0 (puts-cut _ _ _ _ c.in_err-put_name.ensures))

pub returns-in_err-put_cells : goal.returns-in_err-put_cells
returns-in_err-put_cells c =
    let name : List ℕ = numbered (codes "Alternative ") (c.args.row + 1) in
    let category : List ℕ = slice_index_or c.args.problem.now.categories c.args.category [] in
    subst (Puts c.args.out.now.items c.put_cells.new.out.items c.from_residual-in_err-put_cells.result) (sym (record_text-between name (cells_of c.args.problem.now c.args.grades.now) category))
    (puts-then c.args.out.now.items c.put_name.new.out.items (field_text name) c.in_ok-put_name.ensures _ _ c.from_residual-in_err-put_cells.result
    (puts-failed _ _ _ c.from_residual-in_err-put_cells.result c.from_residual-in_err-put_cells.ensures.0 (puts-cut _ _ _ _ c.in_err-put_cells.ensures)))

pub returns : goal.returns
returns c =
    let name : List ℕ = numbered (codes "Alternative ") (c.args.row + 1) in
    let category : List ℕ = slice_index_or c.args.problem.now.categories c.args.category [] in
    let middle : List ℕ = flat_map next_text (cells_of c.args.problem.now c.args.grades.now) in
    let end : List ℕ = next_text category ++ 10 ∷ [] in
    let named : c.as_bytes.result.now ≡ category = c.as_bytes.ensures.value ∙ sym (get_or_from_slice_get c.args.problem.now.categories c.args.category c.category.result.now [] c.category.ensures) in
    let last : Puts c.put_cells.new.out.items c.put_last.new.out.items c.put_last.result end =
    subst (λ t. Puts c.put_cells.new.out.items c.put_last.new.out.items c.put_last.result (next_text t ++ 10 ∷ [])) named c.put_last.ensures in
    subst (Puts c.args.out.now.items c.put_last.new.out.items c.put_last.result) (sym (record_text-between name (cells_of c.args.problem.now c.args.grades.now) category))
    (puts-then c.args.out.now.items c.put_name.new.out.items (field_text name) c.in_ok-put_name.ensures _ (middle ++ end) c.put_last.result
    (puts-then c.put_name.new.out.items c.put_cells.new.out.items middle c.in_ok-put_cells.ensures _ end c.put_last.result last))
