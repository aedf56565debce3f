use Rattle.edge_core.proofs.SoFar.{read_open}
use Rattle.edge_core.proofs.whole_file.load.Goals as goal

pub returns-then-count-eq0-clause-left : goal.returns-then-count-eq0-clause-left
returns-then-count-eq0-clause-left g c = λ some. read_open _ _ _ _ _ (g.S.Shelf.state c.loop-bytes.shelf) _ c.loop-bytes.invariant.so_far c.loop-bytes.invariant.taken c.loop-bytes.invariant.opened c.in_ok-count.ensures.bytes.0 c.in_ok-count.ensures.bound.0 c.in_ok-count.ensures.taken c.in_ok-count.ensures.opened

pub returns-then-count-len-clause-left : goal.returns-then-count-len-clause-left
returns-then-count-len-clause-left g c = λ some. read_open _ _ _ _ _ (g.S.Shelf.state c.loop-bytes.shelf) _ c.loop-bytes.invariant.so_far c.loop-bytes.invariant.taken c.loop-bytes.invariant.opened c.in_ok-count.ensures.bytes.0 c.in_ok-count.ensures.bound.0 c.in_ok-count.ensures.taken c.in_ok-count.ensures.opened
