use Rattle.std.proofs.Common.{rules}
use Rattle.line_core.specs.Commands.{verbs}
use Rattle.line_core.proofs.command.verbs.Goals as goal

pub returns : goal.returns
unfolding verbs
returns c = search rules
