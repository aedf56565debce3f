use Rattle.std.proofs.Common.{ap, ◌∙◌, ◌∷◌, [], ◌++◌, drop}
use Rattle.yaml_tokens.specs.Arrays.{lens_of, packed}
use Rattle.yaml_tokens.proofs.ArraysLemmas.{packed-more, packed-one}
use Rattle.yaml_tokens.proofs.packed.PackedTokens.push.Goals as goal

pub returns : goal.returns
returns c =
    let t = c.self.inside in
    let p = c.args.token in
    let left = packed (drop t.taken t.columns.items) (drop t.taken t.kinds.items) (drop t.lens_taken t.lens.items) in
    rw (c.in_ok-push.ensures.items, c.in_ok-push-2.ensures.items, c.in_ok-with_len.ensures)
    (packed-more t.columns.items (p.column ∷ []) t.kinds.items (p.kind ∷ []) t.lens.items (lens_of p)
    t.taken t.lens_taken c.self.invariant
    ∙ ap (λ ps. left ++ ps) (packed-one p c.requires)
    ∙ ap (λ ps. ps ++ p ∷ []) c.self.view_is)
