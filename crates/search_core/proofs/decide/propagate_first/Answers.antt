use Rattle.search_core.proofs.StateLemmas.{goes_trans}
use Rattle.search_core.proofs.decide.propagate_first.Goals as goal

pub returns-clause-goes : goal.returns-clause-goes
returns-clause-goes g c = goes_trans c.args.watched.now.clauses c.propagate.new.watched.clauses c.restart.new.watched.clauses c.args.watched.now.trail c.propagate.new.watched.trail c.restart.new.watched.trail c.propagate.ensures.goes c.restart.ensures.goes
