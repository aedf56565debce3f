use Rattle.stream_core.proofs.Steps.{cut, held_more}
use Rattle.stream_core.proofs.send.put_text.Goals as goal

pub returns-in_err-make_room : goal.returns-in_err-make_room
returns-in_err-make_room g c = cut _ c.from_residual.result c.from_residual.ensures.0 c.in_err-make_room.ensures.streams

pub returns : goal.returns
returns g c = held_more _ c.in_ok-make_room.ensures.streams c.add_text.ensures
