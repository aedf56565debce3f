use Rattle.chain_core.proofs.ChainLemmas.{chains_computed, chains_succeed}
use Rattle.chain_core.proofs.laws.computed_chain_is_a_chain.Goals as goal

pub returns : goal.returns
returns c = λ clauses set hints. (chains_computed clauses set hints, chains_succeed)
