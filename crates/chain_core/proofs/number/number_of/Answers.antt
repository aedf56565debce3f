use Rattle.chain_core.proofs.NumberLemmas.{number_is}
use Rattle.chain_core.proofs.number.number_of.Goals as goal

pub returns-clause-number : goal.returns-clause-number
returns-clause-number c = number_is c.args.word.now c.args.value c.requires.digits c.if-is_empty.ensures c.if-has_leading_zero.ensures c.requires.value c.if-value-gt-MOST_ID.false
