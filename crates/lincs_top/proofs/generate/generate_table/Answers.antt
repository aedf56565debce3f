use Rattle.std.proofs.Common.{refl}
use Rattle.lincs_top.proofs.Came.{came_none, came_on, came_to_a_stop, came_to_an_end}
use Rattle.lincs_top.proofs.generate.generate_table.Goals as goal

pub returns-in_err-criteria : goal.returns-in_err-criteria
returns-in_err-criteria g c = came_to_a_stop _ (came_none _ _) c.in_err-criteria.ensures.step c.from_residual.ensures.1

pub returns-in_err-rule : goal.returns-in_err-rule
returns-in_err-rule g c = came_to_a_stop _ (came_on _ (came_none _ _) c.in_ok-criteria.ensures.step) c.in_err-rule.ensures.step c.from_residual-in_err-rule.ensures.1

pub returns : goal.returns
returns g c =
    came_to_an_end (came_on _ (came_on _ (came_none _ _) c.in_ok-criteria.ensures.step) c.in_ok-rule.ensures.step)
    (c.deliver.ensures _ c.drawn_table_text-text.ensures) refl
