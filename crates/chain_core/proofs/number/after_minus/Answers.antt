use Rattle.chain_core.proofs.NumberLemmas.{no_minus}
use Rattle.chain_core.proofs.number.after_minus.Goals as goal

pub returns-then-is_empty : goal.returns-then-is_empty
returns-then-is_empty c = no_minus c.args.text.now c.if-is_empty.ensures
