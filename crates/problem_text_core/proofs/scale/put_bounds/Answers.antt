use Rattle.std.proofs.Common.{codes}
use Rattle.fixed_core.specs.Spelling.{spelling}
use Rattle.lists_core.proofs.PutsFacts.{puts-then}
use Rattle.written_core.proofs.PutLemmas.{first-cut}
use Rattle.problem_text_core.specs.Parts.{key_row}
use Rattle.problem_text_core.proofs.scale.put_bounds.Goals as goal

pub returns-in_err-put_number_line-clause-text : goal.returns-in_err-put_number_line-clause-text
returns-in_err-put_number_line-clause-text c =
    let least = key_row (codes "    min_value: ") (spelling c.args.bounds.least) in
    let most = key_row (codes "    max_value: ") (spelling c.args.bounds.most) in
    first-cut _ _ least most c.from_residual.result c.from_residual.ensures.0 c.in_err-put_number_line.ensures.text

pub returns-clause-text : goal.returns-clause-text
returns-clause-text c =
    let least = key_row (codes "    min_value: ") (spelling c.args.bounds.least) in
    let most = key_row (codes "    max_value: ") (spelling c.args.bounds.most) in
    puts-then _ _ least c.in_ok-put_number_line.ensures.text _ most c.put_number_line-2.result c.put_number_line-2.ensures.text
