use Rattle.std.specs.Prelude.{decimal}
use Rattle.chain_core.proofs.WriteLemmas.{size_line}
use Rattle.stream_core.proofs.Steps.{same_text, in_turn, cut, held_two}
use Rattle.stream_core.proofs.send.put_size.Goals as goal

pub returns-in_err-put_text : goal.returns-in_err-put_text
returns-in_err-put_text g c =
    same_text (size_line (decimal c.args.variables) (decimal c.args.clauses)) (cut _ c.from_residual.result c.from_residual.ensures.0 c.in_err-put_text.ensures)

pub returns-in_err-put_id : goal.returns-in_err-put_id
returns-in_err-put_id g c =
    same_text (size_line (decimal c.args.variables) (decimal c.args.clauses))
    (in_turn c.in_ok-put_text.ensures (cut _ c.from_residual-in_err-put_id.result c.from_residual-in_err-put_id.ensures.0 c.in_err-put_id.ensures.streams))

pub returns-in_err-make_room : goal.returns-in_err-make_room
returns-in_err-make_room g c =
    same_text (size_line (decimal c.args.variables) (decimal c.args.clauses))
    (in_turn c.in_ok-put_text.ensures (in_turn c.in_ok-put_id.ensures.streams
    (cut _ c.from_residual-in_err-make_room.result c.from_residual-in_err-make_room.ensures.0 c.in_err-make_room.ensures.streams)))

pub returns : goal.returns
returns g c =
    same_text (size_line (decimal c.args.variables) (decimal c.args.clauses))
    (in_turn c.in_ok-put_text.ensures (in_turn c.in_ok-put_id.ensures.streams
    (held_two _ _ c.in_ok-make_room.ensures.streams c.add_number.ensures.text c.add_text.ensures)))
