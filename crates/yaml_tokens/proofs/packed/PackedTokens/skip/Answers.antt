use Rattle.std.proofs.Common.{if◌then◌else◌, ◌≡◌, ◌<◌, ◌+◌, ap, sym, ◌∙◌, drop, arith, length, get_or}
use Rattle.yaml_tokens.specs.Arrays.{texts_of, packed}
use Rattle.yaml_tokens.specs.Packed.{has_text}
use Rattle.yaml_tokens.proofs.ArraysLemmas.{from_bool-is, packed-rest}
use Rattle.yaml_tokens.proofs.packed.PackedTokens.skip.Goals as goal

pub returns : goal.returns
returns c =
    let t = c.self.inside in
    let columns = t.columns.items in
    let kinds = t.kinds.items in
    let lens = t.lens.items in
    let kind = c.index.result.now in
    let h = c.self.invariant in
    let some : t.taken < length kinds = omega (arith, c.len.ensures, c.if-self-len.false, h.within) in
    let texts : c.from.result ≡ texts_of (get_or kinds t.taken kind) =
    c.from.ensures ∙ from_bool-is c.has_text.result
    ∙ ap (λ b. if b then 1 else 0) (c.has_text.ensures ∙ ap has_text c.index.ensures) in
    ap (λ n. packed (drop (t.taken + 1) columns) (drop (t.taken + 1) kinds) (drop (t.lens_taken + n) lens)) texts
    ∙ sym (packed-rest columns kinds lens t.taken t.lens_taken kind h.as_many some)
    ∙ ap (λ ps. drop 1 ps) c.self.view_is
