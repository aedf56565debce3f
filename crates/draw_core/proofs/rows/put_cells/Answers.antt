use Rattle.std.proofs.Common.{◌≡◌, ◌<◌, ◌++◌, ℕ, List, [], length, take, sym, ap, ◌∙◌, subst, arith}
use Rattle.std.specs.List.{flat_map}
use Rattle.std.proofs.lemmas.List.{take_all}
use Rattle.lists_core.proofs.PutsFacts.{puts-failed}
use Rattle.problem_core.specs.Grade.{IsGrade}
use Rattle.table_core.specs.Written.{next_text}
use Rattle.table_core.proofs.PieceFacts.{piece-more, piece-cut}
use Rattle.draw_core.specs.DrawnTable.{cells_of}
use Rattle.draw_core.proofs.RowFacts.{cell-at, cells-long, zip-at, grades-long}
use Rattle.draw_core.proofs.rows.put_cells.Goals as goal

pub bounds-grades-i : goal.bounds-grades-i
bounds-grades-i c =
    let size = grades-long c.args.problem.now c.args.grades.now c.requires in
    omega (arith, size)

pub put_cell-requires : goal.put_cell-requires
put_cell-requires c =
    zip-at (λ criterion grade. IsGrade criterion.scale grade) c.args.problem.now.criteria c.args.grades.now c.loop-i.i c.criterion.result.now c.index-grades-i.result c.requires c.criterion.ensures c.index-grades-i.is

pub loop-i-preserved : goal.loop-i-preserved
loop-i-preserved c =
    let cells : List (List ℕ) = cells_of c.args.problem.now c.args.grades.now in
    let size = grades-long c.args.problem.now c.args.grades.now c.requires in
    let lt : c.loop-i.i < length c.args.problem.now.criteria = omega arith in
    let is = cell-at c.args.problem.now c.args.grades.now c.loop-i.i c.criterion.result.now c.index-grades-i.result lt (omega (arith, lt, size)) c.criterion.ensures c.index-grades-i.is in
    let many = cells-long c.args.problem.now c.args.grades.now in
    piece-more next_text cells c.loop-i.i [] (omega (arith, lt, many)) c.args.out.now.items c.loop-i.out.items c.put_cell.new.out.items c.loop-i.invariant
    (c.in_ok-put_cell.ensures ∙ ap (λ t. c.loop-i.out.items ++ next_text t) (sym is))

pub returns-in_err-put_cell : goal.returns-in_err-put_cell
returns-in_err-put_cell c =
    let cells : List (List ℕ) = cells_of c.args.problem.now c.args.grades.now in
    let size = grades-long c.args.problem.now c.args.grades.now c.requires in
    let lt : c.loop-i.i < length c.args.problem.now.criteria = omega arith in
    let is = cell-at c.args.problem.now c.args.grades.now c.loop-i.i c.criterion.result.now c.index-grades-i.result lt (omega (arith, lt, size)) c.criterion.ensures c.index-grades-i.is in
    let many = cells-long c.args.problem.now c.args.grades.now in
    puts-failed _ _ _ c.from_residual.result c.from_residual.ensures.0
    (piece-cut next_text cells c.loop-i.i [] (omega (arith, lt, many)) c.args.out.now.items c.loop-i.out.items c.put_cell.new.out.items c.loop-i.invariant
    (subst (λ t. (j : ℕ) × (c.put_cell.new.out.items ≡ c.loop-i.out.items ++ take j (next_text t))) (sym is) c.in_err-put_cell.ensures))

pub returns : goal.returns
returns c =
    let many = cells-long c.args.problem.now c.args.grades.now in
    c.loop-i.invariant ∙ ap (λ t. c.args.out.now.items ++ flat_map next_text t) (take_all c.loop-i.i (cells_of c.args.problem.now c.args.grades.now) (omega (arith, many)))
