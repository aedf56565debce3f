use Rattle.chain_core.proofs.FreshLemmas.{fresh_left}
use Rattle.chain_core.proofs.laws.propagation_gives_no_fresh_lemma.Goals as goal

pub returns : goal.returns
returns c = fresh_left
