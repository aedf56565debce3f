use Rattle.std.proofs.Common.{◌∙◌}
use Rattle.yaml_core.proofs.StartLemmas.{column-is}
use Rattle.yaml_core.proofs.start.column_of.Goals as goal

pub returns : goal.returns
returns c = c.column.ensures ∙ column-is c.args.line.now
