use Rattle.encoding_rules.proofs.EncodingFacts.{nested_either, apart_either}
use Rattle.encoding_rules.proofs.values_of_formula_set_apart.Goals as goal

pub returns-clause-nested : goal.returns-clause-nested
returns-clause-nested c = nested_either

pub returns-clause-apart : goal.returns-clause-apart
returns-clause-apart c = apart_either
