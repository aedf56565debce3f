use Rattle.watch_core.proofs.HeldLemmas.{held_new}
use Rattle.watch_core.proofs.TrailLemmas.{empty_is}
use Rattle.watch_core.proofs.watched.Watched.new.Goals as goal

pub invariant_of-result : goal.invariant_of-result
invariant_of-result g c = held_new g.L.Lit.table_place c.new-3.result c.in_ok-chains.chains.chains c.in_ok-chains.chains.room c.args.variables c.in_ok-trail.trail c.new-3.ensures c.in_ok-chains.ensures.chains c.in_ok-trail.ensures (empty_is g.L.Lit.table_place c.in_ok-trail.trail c.args.variables c.in_ok-trail.ensures c.requires)
