use Rattle.std.proofs.Common.{[], codes}
use Rattle.lists_core.proofs.PutsFacts.{puts-then}
use Rattle.written_core.specs.Parts.{row}
use Rattle.written_core.proofs.PutLemmas.{first-cut}
use Rattle.model_text_core.specs.Parts.{upset_text}
use Rattle.model_text_core.proofs.coalitions.put_by_roots.Goals as goal

pub returns-in_err-put_text : goal.returns-in_err-put_text
returns-in_err-put_text c = first-cut _ _ (row (codes "kind: roots") []) (upset_text c.args.count c.args.roots.now) c.from_residual.result c.from_residual.ensures.0 c.in_err-put_text.ensures

pub returns : goal.returns
returns c = puts-then _ _ (row (codes "kind: roots") []) c.in_ok-put_text.ensures _ (upset_text c.args.count c.args.roots.now) c.put_upset.result c.put_upset.ensures
