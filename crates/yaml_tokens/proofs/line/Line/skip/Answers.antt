use Rattle.std.proofs.Common.{◌≡◌, ap, sym, ◌∙◌, [], drop, refl}
use Rattle.yaml_tokens.specs.Packed.{unpacked}
use Rattle.yaml_tokens.proofs.line.Line.skip.Goals as goal

pub returns-in_default : goal.returns-in_default
returns-in_default c =
    let l = c.self.inside in
    let none : c.args.self.now ≡ [] =
    sym c.self.view_is ∙ ap (λ ps. unpacked ps (drop l.read l.texts.items)) c.in_default.ensures in
    rw none refl
