use Rattle.chain_core.proofs.TruthLemmas.{refutation_sound}
use Rattle.chain_core.proofs.laws.refutation_means_unsatisfiable.Goals as goal

pub returns : goal.returns
returns c = refutation_sound
