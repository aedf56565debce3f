use Rattle.search_core.proofs.OutcomeLemmas.{log_subsumed}
use Rattle.search_core.proofs.PowerLemmas.{subsumed_most, subsumed_few}
use Rattle.search_core.proofs.laws.clauses_not_subsumed_by_earlier_ones_are_few.Goals as goal

pub returns : goal.returns
returns c = record { most = subsumed_most; fewer = subsumed_few; lemmas = log_subsumed }
