use Rattle.std.proofs.Common.{ap, ◌∙◌, drop}
use Rattle.yaml_tokens.specs.Packed.{first_kind}
use Rattle.yaml_tokens.proofs.PackedLemmas.{first_kind-is}
use Rattle.yaml_tokens.proofs.line.Line.first_kind.Goals as goal

pub returns : goal.returns
returns c =
    let l = c.self.inside in
    c.kind.ensures ∙ first_kind-is l.tokens (drop l.read l.texts.items) ∙ ap first_kind c.self.view_is
