use Rattle.problem_text_core.proofs.ProblemText.{problem-reads-back}
use Rattle.problem_text_core.proofs.written_problem_reads_back.Goals as goal

pub returns : goal.returns
returns c = λ p whole kept. problem-reads-back p whole kept
