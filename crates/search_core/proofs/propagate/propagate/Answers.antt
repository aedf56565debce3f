use Rattle.search_core.proofs.StateLemmas.{goes_propagated}
use Rattle.search_core.proofs.propagate.propagate.Goals as goal

pub returns-clause-goes : goal.returns-clause-goes
returns-clause-goes g c = goes_propagated c.args.watched.now.clauses c.propagate.new.self.clauses c.args.watched.now.trail c.propagate.new.self.trail c.propagate.ensures.change c.propagate.ensures.order
