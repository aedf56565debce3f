use Rattle.std.proofs.Common.{◌∙◌}
use Rattle.yaml_core.specs.Start.{begins_by}
use Rattle.yaml_core.proofs.StartLemmas.{begins-kinds}
use Rattle.yaml_core.proofs.start.begins_with.Goals as goal

pub returns : goal.returns
returns c =
    c.begins_by.ensures ∙ (λ i. begins_by (c.first_kind.ensures i) (c.second_kind.ensures i)) ∙ begins-kinds c.args.line.now
