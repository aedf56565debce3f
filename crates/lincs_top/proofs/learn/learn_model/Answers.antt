use Rattle.std.proofs.Common.{refl}
use Rattle.lincs_top.proofs.Came.{came_none, came_on, came_to_a_stop, came_sized, came_to_a_size}
use Rattle.lincs_top.proofs.Learning.{came_to_a_decision, found_belongs}
use Rattle.lincs_top.proofs.learn.learn_model.Goals as goal

pub write_answer-requires : goal.write_answer-requires
write_answer-requires g c = found_belongs _ _ _ _ _ c.in_ok-answer.ensures.answer

pub returns-in_err-criteria : goal.returns-in_err-criteria
returns-in_err-criteria g c = came_to_a_stop _ (came_none _ _) c.in_err-criteria.ensures.step c.from_residual.ensures.1

pub returns-in_err-rows : goal.returns-in_err-rows
returns-in_err-rows g c =
    came_to_a_stop _ (came_on _ (came_none _ _) c.in_ok-criteria.ensures.step) c.in_err-rows.ensures.step c.from_residual-in_err-rows.ensures.1

pub returns-in_err-answer : goal.returns-in_err-answer
returns-in_err-answer g c =
    came_to_a_size _ (came_on _ (came_on _ (came_none _ _) c.in_ok-criteria.ensures.step) c.in_ok-rows.ensures.step)
    c.in_err-answer.ensures.size c.from_residual-in_err-answer.ensures.1 refl

pub returns : goal.returns
returns g c =
    came_to_a_decision (came_sized (came_on _ (came_on _ (came_none _ _) c.in_ok-criteria.ensures.step) c.in_ok-rows.ensures.step) c.in_ok-answer.ensures.size)
    (c.write_answer.ensures _ c.in_ok-criteria.ensures.sound c.in_ok-answer.ensures.answer)
