use Rattle.std.proofs.Common.{ap, arith, length, length-drop, drop}
use Rattle.yaml_tokens.proofs.ArraysLemmas.{packed-length}
use Rattle.yaml_tokens.proofs.packed.PackedTokens.len.Goals as goal

pub returns : goal.returns
returns c =
    let t = c.self.inside in
    let same = packed-length (drop t.taken t.columns.items) (drop t.taken t.kinds.items)
    (drop t.lens_taken t.lens.items)
    (omega (arith, c.self.invariant.as_many, length-drop t.taken t.columns.items, length-drop t.taken t.kinds.items)) in
    omega (arith, c.len.ensures, ap length c.self.view_is, same, length-drop t.taken t.kinds.items)
