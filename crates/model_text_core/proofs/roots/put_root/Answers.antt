use Rattle.std.proofs.Common.{◌∷◌, [], ◌++◌, codes}
use Rattle.lists_core.proofs.PutsFacts.{puts-then}
use Rattle.written_core.specs.Document.{flow_text}
use Rattle.written_core.proofs.PutLemmas.{first-cut}
use Rattle.model_text_core.specs.ModelText.{root_scalars}
use Rattle.model_text_core.proofs.roots.put_root.Goals as goal

pub returns-in_err-put_text : goal.returns-in_err-put_text
returns-in_err-put_text c = first-cut _ _ _ _ c.from_residual.result c.from_residual.ensures.0 c.in_err-put_text.ensures

pub returns-in_err-put_places : goal.returns-in_err-put_places
returns-in_err-put_places c =
    let flow = flow_text (root_scalars c.args.count c.args.root) in
    let r = c.from_residual-in_err-put_places.result in
    puts-then _ _ (codes "      - ") c.in_ok-put_text.ensures _ (flow ++ 10 ∷ []) r (first-cut _ _ flow (10 ∷ []) r c.from_residual-in_err-put_places.ensures.0 c.in_err-put_places.ensures)

pub returns : goal.returns
returns c =
    let flow = flow_text (root_scalars c.args.count c.args.root) in
    puts-then _ _ (codes "      - ") c.in_ok-put_text.ensures _ (flow ++ 10 ∷ []) c.put_text-2.result (puts-then _ _ flow c.in_ok-put_places.ensures _ (10 ∷ []) c.put_text-2.result c.put_text-2.ensures)
