use Rattle.std.proofs.Common.{ap, sym, ◌∙◌}
use Rattle.yaml_tokens.specs.Tokens.{has_mark}
use Rattle.yaml_tokens.proofs.LinesLemmas.{mark-boundary}
use Rattle.yaml_tokens.proofs.lines.without_mark.Goals as goal

pub range_from-requires : goal.range_from-requires
range_from-requires c =
    λ _. mark-boundary c.args.text.now c.utf8.text (ap has_mark (sym c.as_bytes.ensures.value) ∙ sym c.if-has_mark.ensures)
