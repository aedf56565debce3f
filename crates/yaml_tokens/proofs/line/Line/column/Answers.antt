use Rattle.std.proofs.Common.{ap, sym, ◌∙◌, drop}
use Rattle.yaml_tokens.specs.Packed.{first_column, unpacked}
use Rattle.yaml_tokens.proofs.line.Line.column.Goals as goal

pub returns-in-Some : goal.returns-in-Some
returns-in-Some c =
    let l = c.self.inside in
    sym (ap (λ ps. first_column (unpacked ps (drop l.read l.texts.items))) c.in-Some.ensures)
    ∙ ap first_column c.self.view_is

pub returns-in-None : goal.returns-in-None
returns-in-None c =
    let l = c.self.inside in
    sym (ap (λ ps. first_column (unpacked ps (drop l.read l.texts.items))) c.in-None.ensures)
    ∙ ap first_column c.self.view_is
