use Rattle.encoding_rules.proofs.EncodingFacts.{length_either, literals_either}
use Rattle.encoding_rules.proofs.formula_is_counted.Goals as goal

pub returns-clause-clauses : goal.returns-clause-clauses
returns-clause-clauses c = length_either

pub returns-clause-literals : goal.returns-clause-literals
returns-clause-literals c = literals_either
