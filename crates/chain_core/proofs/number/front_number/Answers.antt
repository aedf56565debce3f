use Rattle.std.proofs.Common.{refl}
use Rattle.chain_core.proofs.NumberLemmas.{front_broken, front_other, front_is}
use Rattle.chain_core.proofs.number.front_number.Goals as goal

pub returns-then-not-ends_word-clause-word : goal.returns-then-not-ends_word-clause-word
returns-then-not-ends_word-clause-word c = front_broken c.args.text.now c.front_digits-digits.result.len c.front_digits-digits.ensures.within c.front_digits-digits.ensures.digits c.front_digits-digits.ensures.stops c.if-not-ends_word.ensures

pub returns-in_err-value-clause-word : goal.returns-in_err-value-clause-word
returns-in_err-value-clause-word c =
    rw c.from_residual.ensures (front_other c.args.text.now c.front_digits-digits.result.len _ c.front_digits-digits.ensures.within c.front_digits-digits.ensures.digits c.if-not-ends_word.ensures refl c.in_err-value.ensures.number)

pub returns-clause-word : goal.returns-clause-word
returns-clause-word c = front_is c.args.text.now c.front_digits-digits.result.len c.in_ok-value.value _ c.front_digits-digits.ensures.within c.front_digits-digits.ensures.digits c.if-not-ends_word.ensures refl c.in_ok-value.ensures.number
