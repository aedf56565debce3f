use Rattle.std.proofs.Common.{arith, ◌<◌, ◌*◌, ◌+◌}
use Rattle.yaml_tokens.proofs.QuotesLemmas.{hex-fits}
use Rattle.yaml_tokens.proofs.quoted.hex_character.Goals as goal

pub overflow_mul-value : goal.overflow_mul-value
overflow_mul-value c =
    let fits : c.loop-at.value * 16 + 0 < 4294967296 = hex-fits c.loop-at.at c.loop-at.value 0 (omega arith) c.loop-at.invariant.small (omega arith) in
    omega arith

pub overflow_add-value : goal.overflow_add-value
overflow_add-value c =
    let fits : c.loop-at.value * 16 + c.in_ok-digit.digit < 4294967296 = hex-fits c.loop-at.at c.loop-at.value c.in_ok-digit.digit (omega arith) c.loop-at.invariant.small c.in_ok-digit.ensures.below in
    omega arith
