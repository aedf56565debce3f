use Rattle.line_core.proofs.RangeLemmas.{line_ranges}
use Rattle.line_core.proofs.job.numbers_of_a_job_are_in_their_ranges.Goals as goal

pub returns : goal.returns
returns c = line_ranges
