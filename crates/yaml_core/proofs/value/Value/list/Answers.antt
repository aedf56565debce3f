use Rattle.yaml_core.proofs.KeptLemmas.{keeps-list}
use Rattle.yaml_core.proofs.value.Value.list.Goals as goal

pub invariant_of-result : goal.invariant_of-result
invariant_of-result c =
    let values = c.values.inside in
    rw (c.in_ok-list_of.ensures, c.saturating_add.ensures, c.saturating_add-2.ensures, c.of-note.ensures, ← c.values.view_is)
    (keeps-list values.all values.note.measured c.values.invariant)
