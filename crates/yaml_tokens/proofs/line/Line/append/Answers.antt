use Rattle.std.proofs.Common.{ap, ◌∙◌, ◌++◌, drop}
use Rattle.yaml_tokens.specs.Packed.{unpacked}
use Rattle.yaml_tokens.proofs.PackedLemmas.{ArePacked-more, unpacked-more}
use Rattle.yaml_tokens.proofs.line.Line.append.Goals as goal

pub invariant_of-result : goal.invariant_of-result
invariant_of-result c =
    let l = c.self.inside in
    let m = c.more.inside in
    rw (c.in_ok-tokens.ensures, c.in_ok-extend_from_slice.ensures.items, c.behind.ensures, c.deref.ensures.value)
    (ArePacked-more l.tokens m.tokens l.texts.items (drop m.read m.texts.items) l.read
    c.self.invariant.0 c.self.invariant.1 c.more.invariant.1)

pub returns : goal.returns
returns c =
    let l = c.self.inside in
    let m = c.more.inside in
    rw (c.in_ok-tokens.ensures, c.in_ok-extend_from_slice.ensures.items, c.behind.ensures, c.deref.ensures.value)
    (unpacked-more l.tokens m.tokens l.texts.items (drop m.read m.texts.items) l.read
    c.self.invariant.0 c.self.invariant.1
    ∙ ap (λ ts. ts ++ unpacked m.tokens (drop m.read m.texts.items)) c.self.view_is
    ∙ ap (λ ts. c.args.self ++ ts) c.more.view_is)
