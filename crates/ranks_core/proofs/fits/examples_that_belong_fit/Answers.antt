use Rattle.ranks_core.proofs.FitsFacts.{belong_fit}
use Rattle.ranks_core.proofs.fits.examples_that_belong_fit.Goals as goal

pub returns : goal.returns
returns c = belong_fit
