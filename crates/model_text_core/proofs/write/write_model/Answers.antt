use Rattle.std.proofs.Common.{◌≡◌, ℕ, List, [], ◌++◌, codes, length, ap, sym, ◌∙◌}
use Rattle.lists_core.proofs.PutsFacts.{puts-then}
use Rattle.written_core.proofs.PutLemmas.{puts-as, first-cut}
use Rattle.written_core.specs.Parts.{row}
use Rattle.model_text_core.specs.ModelText.{ReadsBack}
use Rattle.model_text_core.specs.Parts.{head_text, accepted_text, coalitions_text}
use Rattle.model_text_core.proofs.ModelText.{problem-reads-back}
use Rattle.model_text_core.proofs.PartTexts.{model_text-parts}
use Rattle.model_text_core.proofs.RowTexts.{on-ok}
use Rattle.model_text_core.proofs.write.write_model.Goals as goal

-- the row of the key of the coalitions
abbrev key : List ℕ
key = row (codes "sufficient_coalitions:") []

pub returns-in_err-put_text-clause-text : goal.returns-in_err-put_text-clause-text
returns-in_err-put_text-clause-text c =
    let r = c.from_residual.result in
    let more : List ℕ = accepted_text c.args.problem.now.criteria c.args.model.now.profiles ++ (key ++ coalitions_text (length c.args.problem.now.criteria) c.args.model.now.coalitions) in
    puts-as _ _ r _ _ (model_text-parts c.args.problem.now c.args.model.now c.criteria_count-count.ensures.facts c.requires)
    (first-cut _ _ head_text more r c.from_residual.ensures.0 c.in_err-put_text.ensures)

pub returns-in_err-put_accepted-clause-text : goal.returns-in_err-put_accepted-clause-text
returns-in_err-put_accepted-clause-text c =
    let r = c.from_residual-in_err-put_accepted.result in
    let accepted : List ℕ = accepted_text c.args.problem.now.criteria c.args.model.now.profiles in
    let more : List ℕ = key ++ coalitions_text (length c.args.problem.now.criteria) c.args.model.now.coalitions in
    puts-as _ _ r _ _ (model_text-parts c.args.problem.now c.args.model.now c.criteria_count-count.ensures.facts c.requires)
    (puts-then _ _ head_text c.in_ok-put_text.ensures _ (accepted ++ more) r
    (first-cut _ _ accepted more r c.from_residual-in_err-put_accepted.ensures.0 c.in_err-put_accepted.ensures.text))

pub returns-in_err-put_text-2-clause-text : goal.returns-in_err-put_text-2-clause-text
returns-in_err-put_text-2-clause-text c =
    let r = c.from_residual-in_err-put_text-2.result in
    let accepted : List ℕ = accepted_text c.args.problem.now.criteria c.args.model.now.profiles in
    let coalitions : List ℕ = coalitions_text (length c.args.problem.now.criteria) c.args.model.now.coalitions in
    puts-as _ _ r _ _ (model_text-parts c.args.problem.now c.args.model.now c.criteria_count-count.ensures.facts c.requires)
    (puts-then _ _ head_text c.in_ok-put_text.ensures _ (accepted ++ (key ++ coalitions)) r
    (puts-then _ _ accepted c.in_ok-put_accepted.ensures.text _ (key ++ coalitions) r
    (first-cut _ _ key coalitions r c.from_residual-in_err-put_text-2.ensures.0 c.in_err-put_text-2.ensures)))

pub returns-clause-text : goal.returns-clause-text
returns-clause-text c =
    let r = c.put_coalitions.result in
    let rows = c.args.model.now.coalitions in
    let accepted : List ℕ = accepted_text c.args.problem.now.criteria c.args.model.now.profiles in
    let coalitions : List ℕ = coalitions_text (length c.args.problem.now.criteria) rows in
    let same : coalitions ≡ coalitions_text c.criteria_count-count.result c.all_coalitions.result.now =
    ap (λ (n : ℕ). coalitions_text n rows) (sym c.criteria_count-count.ensures.count) ∙ ap (coalitions_text c.criteria_count-count.result) (sym c.all_coalitions.ensures) in
    puts-as _ _ r _ _ (model_text-parts c.args.problem.now c.args.model.now c.criteria_count-count.ensures.facts c.requires)
    (puts-then _ _ head_text c.in_ok-put_text.ensures _ (accepted ++ (key ++ coalitions)) r
    (puts-then _ _ accepted c.in_ok-put_accepted.ensures.text _ (key ++ coalitions) r
    (puts-then _ _ key c.in_ok-put_text-2.ensures _ coalitions r (puts-as _ _ r _ _ same c.put_coalitions.ensures))))

pub returns-clause-reads : goal.returns-clause-reads
returns-clause-reads c =
    on-ok c.put_coalitions.result (ReadsBack c.args.problem.now c.args.model.now)
    (problem-reads-back c.args.problem.now c.args.model.now c.criteria_count-count.ensures.facts c.in_ok-put_accepted.ensures.names c.requires)
