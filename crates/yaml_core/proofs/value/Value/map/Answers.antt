use Rattle.yaml_core.proofs.KeptLemmas.{keeps-map}
use Rattle.yaml_core.proofs.value.Value.map.Goals as goal

pub invariant_of-result : goal.invariant_of-result
invariant_of-result c =
    let mapping = c.mapping.inside in
    rw (c.in_ok-map_of.ensures, c.saturating_add.ensures, c.saturating_add-2.ensures, c.of-note.ensures, ← c.mapping.view_is)
    (keeps-map mapping.all mapping.note.entries c.mapping.invariant.pairs c.mapping.invariant.distinct)
