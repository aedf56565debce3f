use Rattle.std.proofs.Common.{refl}
use Rattle.lincs_top.proofs.Came.{came_none, came_sized, came_to_a_size}
use Rattle.lincs_top.proofs.Rehearsing.{came_to_a_rehearsal}
use Rattle.lincs_top.proofs.rehearse.rehearse_once.Goals as goal

pub returns-in_err-rehearsal : goal.returns-in_err-rehearsal
returns-in_err-rehearsal g c = came_to_a_size _ (came_none _ _) c.in_err-rehearsal.ensures.size c.from_residual.ensures.1 refl

pub returns : goal.returns
returns g c =
    came_to_a_rehearsal (came_sized (came_none _ _) c.in_ok-rehearsal.ensures.size)
    (c.write_rehearsal.ensures _ _ c.in_ok-rehearsal.ensures.learned c.in_ok-rehearsal.ensures.at_limit)
