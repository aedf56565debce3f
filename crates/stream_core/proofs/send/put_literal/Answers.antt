use Rattle.stream_core.proofs.Steps.{cut, held_two}
use Rattle.stream_core.proofs.send.put_literal.Goals as goal

pub returns-in_err-make_room-clause-streams : goal.returns-in_err-make_room-clause-streams
returns-in_err-make_room-clause-streams g c = cut _ c.from_residual.result c.from_residual.ensures.0 c.in_err-make_room.ensures.streams

pub returns-clause-streams : goal.returns-clause-streams
returns-clause-streams g c = held_two _ _ c.in_ok-make_room.ensures.streams c.add_literal.ensures.text c.add_byte.ensures
