use Rattle.std.proofs.Common.{ap, pos}
use Rattle.std.specs.Prelude.{int_le}
use Rattle.sorting_rule.specs.Coalition.{ONE}
use Rattle.model_core.proofs.rule.is_heavy.Goals as goal

pub returns : goal.returns
returns c = ap (int_le (pos ONE)) c.weight_of.ensures
