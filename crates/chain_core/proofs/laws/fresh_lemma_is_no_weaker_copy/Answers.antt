use Rattle.chain_core.proofs.FreshLemmas.{fresh_lemma}
use Rattle.chain_core.proofs.laws.fresh_lemma_is_no_weaker_copy.Goals as goal

pub returns : goal.returns
returns c = fresh_lemma
