-- What values mean, by what they come from.
use Rattle.std.specs.Prelude.{List, [], ◌∷◌, ◌++◌}
use Rattle.yaml_core.specs.declared.value_note.Origin.{Origin}
use Rattle.yaml_core.specs.declared.value_note.Origin.TheVariants as origin
use Rattle.yaml_core.specs.declared.value_note.Gathered.{Gathered}
use Rattle.yaml_core.specs.declared.value_note.Gathered.TheVariants as gathered
use Rattle.yaml_core.specs.declared.value_note.Entered.{Entered}
use Rattle.yaml_core.specs.declared.value_note.Entered.TheVariants as entered
use Rattle.yaml_core.specs.declared.node.Node.TheVariants as node
use Rattle.yaml_core.specs.Measured.{Measured, Entry, leaf, list_node, map_node}

abbrev pub node_from : Origin → Measured
node_from origin.Null = leaf node.Null
node_from (origin.Scalar text) = leaf (node.Scalar text.now)
node_from (origin.Quoted text) = leaf (node.Quoted text.now)
node_from (origin.List values) = list_node values.now
node_from (origin.Map mapping) = map_node mapping.now
node_from (origin.Same value) = value.now

abbrev pub nodes_from : Gathered → List Measured
nodes_from gathered.Nothing = []
nodes_from (gathered.More values value) = values.now ++ value.now ∷ []

abbrev pub entries_from : Entered → List Entry
entries_from entered.Nothing = []
entries_from (entered.More mapping key value) = mapping.now ++ (key.now, value.now) ∷ []
