use Rattle.yaml_core.proofs.KeptLemmas.{keeps-Scalar}
use Rattle.yaml_core.proofs.value.Value.scalar.Goals as goal

pub invariant_of-result : goal.invariant_of-result
invariant_of-result c = rw c.of-note.ensures (keeps-Scalar c.args.text)
