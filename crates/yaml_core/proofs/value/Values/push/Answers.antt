use Rattle.yaml_core.proofs.KeptLemmas.{keeps-item}
use Rattle.yaml_core.proofs.value.Values.push.Goals as goal

pub invariant_of-result : goal.invariant_of-result
invariant_of-result c =
    let values = c.self.inside in
    let value = c.value.inside in
    let out = rw c.saturating_add-nodes.ensures at c.in_ok-all.ensures.left_out in
    rw (c.max-levels.ensures, c.saturating_add-nodes.ensures, c.of-note.ensures, ← c.self.view_is, ← c.value.view_is)
    (keeps-item values.all c.in_ok-all.all value.node values.note.measured value.note.measured c.self.invariant c.value.invariant c.in_ok-all.ensures.kept out)
