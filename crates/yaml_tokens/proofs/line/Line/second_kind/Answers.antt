use Rattle.std.proofs.Common.{ap, ◌∙◌, drop}
use Rattle.yaml_tokens.specs.Packed.{second_kind}
use Rattle.yaml_tokens.proofs.PackedLemmas.{second_kind-is}
use Rattle.yaml_tokens.proofs.line.Line.second_kind.Goals as goal

pub returns : goal.returns
returns c =
    let l = c.self.inside in
    c.kind.ensures ∙ second_kind-is l.tokens (drop l.read l.texts.items) ∙ ap second_kind c.self.view_is
