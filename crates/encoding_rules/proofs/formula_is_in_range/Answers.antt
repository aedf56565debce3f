use Rattle.encoding_rules.proofs.EncodingFacts.{range_either}
use Rattle.encoding_rules.proofs.formula_is_in_range.Goals as goal

pub returns : goal.returns
returns c = range_either
