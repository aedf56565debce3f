use Rattle.std.proofs.Common.{ap, ◌∙◌, ◌∷◌, [], ◌++◌, drop, subst}
use Rattle.std.specs.Str.{IsUtf8}
use Rattle.yaml_tokens.specs.Packed.{text_in, unpacked}
use Rattle.yaml_tokens.proofs.PackedLemmas.{ArePacked-more, ArePacked-one, unpacked-more, unpacked-one}
use Rattle.yaml_tokens.proofs.line.Line.push.Goals as goal

pub invariant_of-result : goal.invariant_of-result
invariant_of-result c =
    let l = c.self.inside in
    let p = c.in_ok-without_text.field-0 in
    let text = text_in c.args.placed.token in
    let same = c.as_bytes.ensures.value ∙ c.text.ensures in
    rw (c.in_ok-tokens.ensures, c.in_ok-extend_from_slice.ensures.items, same)
    (ArePacked-more l.tokens (p ∷ []) l.texts.items text l.read c.self.invariant.0 c.self.invariant.1
    (ArePacked-one p text c.in_ok-without_text.ensures.len (subst IsUtf8 c.text.ensures c.text.utf8)))

pub returns : goal.returns
returns c =
    let l = c.self.inside in
    let p = c.in_ok-without_text.field-0 in
    let text = text_in c.args.placed.token in
    let same = c.as_bytes.ensures.value ∙ c.text.ensures in
    let is = c.in_ok-without_text.ensures in
    rw (c.in_ok-tokens.ensures, c.in_ok-extend_from_slice.ensures.items, same)
    (unpacked-more l.tokens (p ∷ []) l.texts.items text l.read c.self.invariant.0 c.self.invariant.1
    ∙ ap (λ ts. unpacked l.tokens (drop l.read l.texts.items) ++ ts)
    (unpacked-one p c.args.placed is.column is.kind is.len)
    ∙ ap (λ ts. ts ++ c.args.placed ∷ []) c.self.view_is)
