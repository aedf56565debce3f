use Rattle.std.proofs.Common.{ap, sym, ◌∙◌, length, drop}
use Rattle.yaml_tokens.proofs.PackedLemmas.{unpacked-length}
use Rattle.yaml_tokens.proofs.line.Line.len.Goals as goal

pub returns : goal.returns
returns c =
    let l = c.self.inside in
    c.len.ensures ∙ sym (unpacked-length l.tokens (drop l.read l.texts.items)) ∙ ap length c.self.view_is
