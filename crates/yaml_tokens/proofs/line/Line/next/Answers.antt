use Rattle.std.proofs.Common.{◌≡◌, ap, sym, ◌∙◌, [], drop, subst, arith, length-drop}
use Rattle.yaml_tokens.specs.Packed.{unpacked, ArePacked}
use Rattle.yaml_tokens.proofs.line.Line.next.Goals as goal

pub returns-in_default : goal.returns-in_default
returns-in_default c =
    let l = c.self.inside in
    let none : c.args.self.now ≡ [] =
    sym c.self.view_is ∙ ap (λ ps. unpacked ps (drop l.read l.texts.items)) c.in_default.ensures in
    (none, none)

pub slice_bounds-from_utf8-end : goal.slice_bounds-from_utf8-end
slice_bounds-from_utf8-end c =
    let l = c.self.inside in
    let fits = subst (λ ps. ArePacked ps (drop l.read l.texts.items)) c.in-Some.ensures c.self.invariant.1 in
    omega (arith, fits.0, length-drop l.read l.texts.items, c.self.invariant.0, c.deref.ensures.len)
