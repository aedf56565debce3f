use Rattle.std.proofs.Common.{ap, ◌∙◌, length}
use Rattle.table_core.specs.Examples.{no_example}
use Rattle.table_core.proofs.BelongFacts.{belong-lengths}
use Rattle.report_core.proofs.restored.is_restored.Goals as goal

pub sort-requires-clause-grades : goal.sort-requires-clause-grades
sort-requires-clause-grades c = ap length c.grades.ensures ∙ belong-lengths c.args.problem.now c.args.examples.now c.requires.examples c.args.row no_example c.requires.row
