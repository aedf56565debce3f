use Rattle.yaml_core.proofs.KeptLemmas.{keeps-Null}
use Rattle.yaml_core.proofs.value.Value.null.Goals as goal

pub invariant_of-result : goal.invariant_of-result
invariant_of-result c = rw c.of.ensures keeps-Null
