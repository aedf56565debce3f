use Rattle.std.proofs.Common.{refl}
use Rattle.lincs_top.proofs.Came.{came_none, came_to_an_end}
use Rattle.lincs_top.proofs.generate.generate_problem.Goals as goal

pub returns : goal.returns
returns g c = came_to_an_end (came_none _ _) (c.deliver.ensures _ c.drawn_problem_text-text.ensures) refl
