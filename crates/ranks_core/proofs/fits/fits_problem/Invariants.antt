use Rattle.ranks_core.proofs.FitsFacts.{FitBefore}
use Rattle.ranks_core.proofs.fits.fits_problem.Given as goal

abbrev pub invariant-loop-row : goal.invariant-loop-row
invariant-loop-row l = FitBefore l.problem l.examples l.row
