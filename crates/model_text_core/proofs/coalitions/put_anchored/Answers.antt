use Rattle.std.proofs.Common.{◌++◌, codes}
use Rattle.lists_core.proofs.PutsFacts.{puts-then}
use Rattle.written_core.specs.Parts.{row}
use Rattle.written_core.proofs.PutLemmas.{first-cut}
use Rattle.model_text_core.specs.Parts.{coalition_text, same_text}
use Rattle.model_text_core.proofs.coalitions.put_anchored.Goals as goal

pub returns-in_err-put_text : goal.returns-in_err-put_text
returns-in_err-put_text c = first-cut _ _ (row (codes "  - &coalitions") (codes "    ")) _ c.from_residual.result c.from_residual.ensures.0 c.in_err-put_text.ensures

pub returns-in_err-put_coalition : goal.returns-in_err-put_coalition
returns-in_err-put_coalition c =
    let own = coalition_text c.args.count c.args.first.now in
    let more = same_text c.args.others.now in
    let r = c.from_residual-in_err-put_coalition.result in
    puts-then _ _ (row (codes "  - &coalitions") (codes "    ")) c.in_ok-put_text.ensures _ (own ++ more) r (first-cut _ _ own more r c.from_residual-in_err-put_coalition.ensures.0 c.in_err-put_coalition.ensures)

pub returns : goal.returns
returns c =
    let own = coalition_text c.args.count c.args.first.now in
    let more = same_text c.args.others.now in
    puts-then _ _ (row (codes "  - &coalitions") (codes "    ")) c.in_ok-put_text.ensures _ (own ++ more) c.put_aliases.result (puts-then _ _ own c.in_ok-put_coalition.ensures _ more c.put_aliases.result c.put_aliases.ensures)
