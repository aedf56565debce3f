use Rattle.chain_core.proofs.NumberLemmas.{minus_is, minus_other, plain_is, plain_other}
use Rattle.chain_core.proofs.number.front_place.Goals as goal

pub returns-in_err-number-in-Some : goal.returns-in_err-number-in-Some
returns-in_err-number-in-Some c = record { word = rw c.from_residual.ensures (minus_other c.args.text.now c.in-Some.rest.now c.in-Some.ensures c.in_err-number-in-Some.ensures.word) }

pub returns-in_err-number-in-None : goal.returns-in_err-number-in-None
returns-in_err-number-in-None c = record { word = rw c.from_residual-in_err-number-in-None.ensures (plain_other c.args.text.now c.in-None.ensures c.in_err-number-in-None.ensures.word) }

pub returns-in_ok-number-in-Some : goal.returns-in_ok-number-in-Some
returns-in_ok-number-in-Some c = record { word = minus_is c.args.text.now c.in-Some.rest.now _ _ c.in-Some.ensures c.in_ok-number-in-Some.ensures.word }

pub returns-in_ok-number-in-None : goal.returns-in_ok-number-in-None
returns-in_ok-number-in-None c = record { word = plain_is c.args.text.now _ _ c.in-None.ensures c.in_ok-number-in-None.ensures.word }
