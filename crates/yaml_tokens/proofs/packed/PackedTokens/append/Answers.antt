use Rattle.std.proofs.Common.{ap, ◌∙◌, ◌++◌, drop}
use Rattle.yaml_tokens.specs.Arrays.{packed}
use Rattle.yaml_tokens.proofs.ArraysLemmas.{packed-more}
use Rattle.yaml_tokens.proofs.packed.PackedTokens.append.Goals as goal

pub returns : goal.returns
returns c =
    let t = c.self.inside in
    let m = c.more.inside in
    let columns = drop m.taken m.columns.items in
    let kinds = drop m.taken m.kinds.items in
    let lens = drop m.lens_taken m.lens.items in
    rw (c.in_ok-extend_from_slice.ensures.items, c.behind.ensures, c.deref.ensures.value)
    (rw (c.in_ok-extend_from_slice-2.ensures.items, c.behind-2.ensures, c.deref-2.ensures.value)
    (rw (c.in_ok-extend_from_slice-3.ensures.items, c.behind-3.ensures, c.deref-3.ensures.value)
    (packed-more t.columns.items columns t.kinds.items kinds t.lens.items lens t.taken t.lens_taken c.self.invariant
    ∙ ap (λ ps. ps ++ packed columns kinds lens) c.self.view_is
    ∙ ap (λ ps. c.args.self ++ ps) c.more.view_is)))
