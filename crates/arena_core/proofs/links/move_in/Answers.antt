use Rattle.std.proofs.Common.{refl, arith}
use Rattle.arena_core.proofs.SeatLemmas.{seated, apart_from}
use Rattle.arena_core.proofs.links.move_in.Goals as goal

pub unlink_from-requires-clause-seat : goal.unlink_from-requires-clause-seat
unlink_from-requires-clause-seat g c = (seated g.L.Lit.table_place c.args.heads.now c.args.links.now _ c.args.seat c.requires.held refl c.requires.seated).0

pub unlink_from-requires-clause-owned : goal.unlink_from-requires-clause-owned
unlink_from-requires-clause-owned g c = (seated g.L.Lit.table_place c.args.heads.now c.args.links.now _ c.args.seat c.requires.held refl c.requires.seated).1

pub link_in-requires-clause-seat : goal.link_in-requires-clause-seat
link_in-requires-clause-seat g c = let s = (seated g.L.Lit.table_place c.args.heads.now c.args.links.now _ c.args.seat c.requires.held refl c.requires.seated).0 in omega (arith, s, c.unlink_from.auto.links)

pub returns-clause-apart : goal.returns-clause-apart
returns-clause-apart g c = apart_from g.L.Lit.table_place c.link_in.new.heads c.link_in.new.links c.link_in.ensures.held
