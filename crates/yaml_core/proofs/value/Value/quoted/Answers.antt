use Rattle.yaml_core.proofs.KeptLemmas.{keeps-Quoted}
use Rattle.yaml_core.proofs.value.Value.quoted.Goals as goal

pub invariant_of-result : goal.invariant_of-result
invariant_of-result c = rw c.of-note.ensures (keeps-Quoted c.args.text)
