use Rattle.encoding_rules.proofs.ApartFacts.{all_apart}
use Rattle.encoding_rules.proofs.formula_is_apart.Goals as goal

pub returns : goal.returns
returns c = all_apart
