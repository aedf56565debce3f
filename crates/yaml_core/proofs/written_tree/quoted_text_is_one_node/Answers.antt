use Rattle.yaml_core.proofs.WrittenTreeLemmas.{quoted-tree, quoted-reading}
use Rattle.yaml_core.proofs.written_tree.quoted_text_is_one_node.Goals as goal

pub returns : goal.returns
returns c = record { tree = quoted-tree c.args.text.now; read = quoted-reading c.args.text.now c.utf8.text }
