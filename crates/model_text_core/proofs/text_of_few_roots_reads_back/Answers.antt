use Rattle.model_text_core.proofs.Counts.{reads-whole}
use Rattle.model_text_core.proofs.text_of_few_roots_reads_back.Goals as goal

pub returns : goal.returns
returns c = λ problem m p b short back. reads-whole problem m p b short back
