use Rattle.rehearsal_core.proofs.SummaryFacts.{says_all}
use Rattle.rehearsal_core.proofs.summary_says_that_all_are_restored.Goals as goal

pub returns : goal.returns
returns c = says_all
