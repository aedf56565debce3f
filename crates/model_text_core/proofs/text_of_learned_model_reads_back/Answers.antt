use Rattle.model_text_core.proofs.LearnedRoots.{learned-reads-whole}
use Rattle.model_text_core.proofs.text_of_learned_model_reads_back.Goals as goal

pub returns : goal.returns
returns c = λ problem m examples p b l back. learned-reads-whole problem m examples p b l back
