use Rattle.std.proofs.Common.{rules, ◌∙◌, ap, ◌++◌, ◌∷◌, []}
use Rattle.rows_core.proofs.Rows.push.Goals as goal
use Rattle.rows_core.proofs.RowsLemmas.{rows_of-push}

pub returns-in-Ok-clause-ok : goal.returns-in-Ok-clause-ok
returns-in-Ok-clause-ok g c = rows_of-push _ _ _ _ _ _ c.self.invariant c.in_ok-extend_from_slice.ensures.items c.in-Ok.ensures.items (search rules) (search rules) ∙ ap (λ rs. rs ++ c.args.row.now ∷ []) c.self.view_is
