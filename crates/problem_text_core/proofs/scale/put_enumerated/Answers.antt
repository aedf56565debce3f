use Rattle.std.proofs.Common.{List, ℕ, ◌++◌, codes}
use Rattle.lists_core.proofs.PutsFacts.{puts-then}
use Rattle.written_core.specs.Parts.{row}
use Rattle.written_core.proofs.PutLemmas.{first-cut}
use Rattle.problem_text_core.specs.Parts.{flow_names}
use Rattle.problem_text_core.proofs.scale.put_enumerated.Goals as goal

-- what is before the names
abbrev before : List ℕ
before = row (codes "    value_type: enumerated") (codes "    ordered_values: ")

pub returns-in_err-put_text-clause-text : goal.returns-in_err-put_text-clause-text
returns-in_err-put_text-clause-text c =
    first-cut _ _ before (flow_names c.args.names.now ++ codes "\n") c.from_residual.result c.from_residual.ensures.0 c.in_err-put_text.ensures

pub returns-in_err-put_names-clause-text : goal.returns-in_err-put_names-clause-text
returns-in_err-put_names-clause-text c =
    let names = flow_names c.args.names.now in
    let r = c.from_residual-in_err-put_names.result in
    puts-then _ _ before c.in_ok-put_text.ensures _ (names ++ codes "\n") r (first-cut _ _ names (codes "\n") r c.from_residual-in_err-put_names.ensures.0 c.in_err-put_names.ensures.text)

pub returns-clause-text : goal.returns-clause-text
returns-clause-text c =
    let names = flow_names c.args.names.now in
    let r = c.put_text-2.result in
    puts-then _ _ before c.in_ok-put_text.ensures _ (names ++ codes "\n") r (puts-then _ _ names c.in_ok-put_names.ensures.text _ (codes "\n") r c.put_text-2.ensures)
