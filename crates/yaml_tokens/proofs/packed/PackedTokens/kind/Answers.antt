use Rattle.std.proofs.Common.{ap, sym, ◌∙◌, arith, length-drop, drop, map}
use Rattle.std.proofs.lemmas.Grind.{common_steps}
use Rattle.std.proofs.lemmas.Option.{gets}
use Rattle.yaml_tokens.specs.declared.packed.Packed.{Packed}
use Rattle.yaml_tokens.proofs.ArraysLemmas.{kinds-packed}
use Rattle.yaml_tokens.proofs.packed.PackedTokens.kind.Goals as goal

pub returns : goal.returns
returns c =
    let t = c.self.inside in
    let same = kinds-packed (drop t.taken t.columns.items) (drop t.taken t.kinds.items)
    (drop t.lens_taken t.lens.items)
    (omega (arith, c.self.invariant.as_many, length-drop t.taken t.columns.items, length-drop t.taken t.kinds.items)) in
    let kinds = ap (λ ps. map (λ (p : Packed). p.kind) ps) (sym c.self.view_is) ∙ same in
    let got = c.get.ensures.lookup in
    rw kinds (grind (arith, common_steps, gets, c.copied.ensures, got, c.behind.ensures, c.deref.ensures.value))
