use Rattle.std.proofs.Common.{refl}
use Rattle.lincs_top.proofs.Came.{came_none, came_on, came_to_a_stop, came_sized, came_to_a_size}
use Rattle.lincs_top.proofs.Judging.{came_to_a_judgement}
use Rattle.lincs_top.proofs.check.check_refutation.Goals as goal

pub returns-in_err-criteria : goal.returns-in_err-criteria
returns-in_err-criteria g c = came_to_a_stop _ (came_none _ _) c.in_err-criteria.ensures.step c.from_residual.ensures.1

pub returns-in_err-rows : goal.returns-in_err-rows
returns-in_err-rows g c =
    came_to_a_stop _ (came_on _ (came_none _ _) c.in_ok-criteria.ensures.step) c.in_err-rows.ensures.step c.from_residual-in_err-rows.ensures.1

pub returns-in_err-encoding : goal.returns-in_err-encoding
returns-in_err-encoding g c =
    came_to_a_stop _ (came_on _ (came_on _ (came_none _ _) c.in_ok-criteria.ensures.step) c.in_ok-rows.ensures.step)
    c.in_err-encoding.ensures.step c.from_residual-in_err-encoding.ensures.1

pub returns-in_err-formula : goal.returns-in_err-formula
returns-in_err-formula g c =
    came_to_a_size _ (came_on _ (came_on _ (came_on _ (came_none _ _) c.in_ok-criteria.ensures.step) c.in_ok-rows.ensures.step) c.in_ok-encoding.ensures.step)
    c.in_err-formula.ensures.size c.from_residual-in_err-formula.ensures.1 refl

pub returns : goal.returns
returns g c =
    came_to_a_judgement (came_sized (came_on _ (came_on _ (came_on _ (came_none _ _) c.in_ok-criteria.ensures.step) c.in_ok-rows.ensures.step) c.in_ok-encoding.ensures.step) c.in_ok-formula.ensures.size)
    c.in_ok-formula.ensures.formula c.in_ok-formula.ensures.complete c.judge.ensures
