use Rattle.report_core.proofs.problem_text.put_scale.Goals as goal

pub returns-in-Falling : goal.returns-in-Falling
returns-in-Falling c = rw c.in-Falling.is c.put_numbers-in-Falling.ensures
