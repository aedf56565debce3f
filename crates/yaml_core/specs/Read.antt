-- What the bytes of a file are read as.
use Rattle.std.specs.Prelude.{ℕ, nat_le, if◌then◌else◌, List, Option, Some, None, Result, Ok, Err}
use Rattle.std.specs.Str.{is_utf8}
use Rattle.yaml_core.specs.declared.fault.YamlFault.{YamlFault}
use Rattle.yaml_core.specs.declared.fault.YamlFault.TheVariants as fault
use Rattle.yaml_core.specs.declared.node.Node.{Node}
use Rattle.yaml_core.specs.Size.{node_count, most_nodes}
use Rattle.yaml_core.specs.Tree.{text_tree}

-- the tree, unless there is none or it has too many nodes
abbrev pub within_limit : Option Node → Result Node YamlFault
within_limit None = Err fault.Form
within_limit (Some n) = if nat_le (node_count n) most_nodes then Ok n else Err fault.Many

-- the tree of the bytes, or the first fault that they have
abbrev pub reading : List ℕ → Result Node YamlFault
reading bytes = if is_utf8 bytes then within_limit (text_tree bytes) else Err fault.NotUtf8
