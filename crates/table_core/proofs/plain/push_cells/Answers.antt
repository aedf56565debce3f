use Rattle.std.proofs.Common.{◌++◌, take, ap, ◌∙◌, append_assoc}
use Rattle.std.specs.List.{flat_map}
use Rattle.std.proofs.lemmas.Result.{err_from_is_err_and}
use Rattle.table_core.specs.Written.{next_text}
use Rattle.table_core.proofs.plain.push_cells.Goals as goal

pub returns-in_err-text-clause-part : goal.returns-in_err-text-clause-part
returns-in_err-text-clause-part g c =
    let p = err_from_is_err_and c.from_residual.result c.from_residual.ensures.1 in
    let done = flat_map next_text (take c.loop-k.k (g.C.Cells.cells c.args.cells.now)) in
    let part = c.in_err-text.ensures.part in
    rw (p.1, p.2) (done ++ part.0, part.1 ∙ ap (λ t. t ++ part.0) c.loop-k.invariant ∙ append_assoc c.args.text.items done part.0)
