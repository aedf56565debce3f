use Rattle.std.proofs.Common.{List, ℕ, ◌++◌, codes, map, ap, sym}
use Rattle.lists_core.proofs.PutsFacts.{puts-then}
use Rattle.written_core.specs.Document.{flow_text}
use Rattle.written_core.proofs.PutLemmas.{puts-as, first-cut}
use Rattle.written_core.specs.Parts.{row}
use Rattle.model_text_core.specs.ModelText.{threshold_scalar}
use Rattle.model_text_core.specs.Parts.{thresholds_text}
use Rattle.model_text_core.proofs.accepted.put_criterion.Goals as goal

abbrev first : List ℕ
first = row (codes "  - kind: thresholds") (codes "    thresholds: ")

pub returns-in_err-put_text-clause-text : goal.returns-in_err-put_text-clause-text
returns-in_err-put_text-clause-text c =
    let flow : List ℕ = flow_text (map (threshold_scalar c.args.criterion.now.scale) c.args.profile.now.thresholds) in
    first-cut _ _ first (flow ++ codes "\n") c.from_residual.result c.from_residual.ensures.0 c.in_err-put_text.ensures

pub returns-in_err-put_thresholds-clause-text : goal.returns-in_err-put_thresholds-clause-text
returns-in_err-put_thresholds-clause-text c =
    let flow : List ℕ = flow_text (map (threshold_scalar c.args.criterion.now.scale) c.as_slice.result.now) in
    let r = c.from_residual-in_err-put_thresholds.result in
    puts-as _ _ r _ _ (ap (thresholds_text c.args.criterion.now.scale) (sym c.as_slice.ensures.items))
    (puts-then _ _ first c.in_ok-put_text.ensures _ (flow ++ codes "\n") r (first-cut _ _ flow (codes "\n") r c.from_residual-in_err-put_thresholds.ensures.0 c.in_err-put_thresholds.ensures))

pub returns-clause-text : goal.returns-clause-text
returns-clause-text c =
    let flow : List ℕ = flow_text (map (threshold_scalar c.args.criterion.now.scale) c.as_slice.result.now) in
    let r = c.put_text-2.result in
    puts-as _ _ r _ _ (ap (thresholds_text c.args.criterion.now.scale) (sym c.as_slice.ensures.items))
    (puts-then _ _ first c.in_ok-put_text.ensures _ (flow ++ codes "\n") r (puts-then _ _ flow c.in_ok-put_thresholds.ensures _ (codes "\n") r c.put_text-2.ensures))
