use Rattle.std.proofs.Common.{◌≡◌, ◌++◌, append_assoc, ap, sym, ◌∙◌}
use Rattle.std.proofs.lemmas.Nat.{le_bytes_8}
use Rattle.table_core.proofs.PlainFacts.{eight}
use Rattle.table_core.proofs.plain.push_eight.Goals as goal

pub returns-clause-items : goal.returns-clause-items
returns-clause-items c =
    let block = c.args.block.now in
    let same : c.to_le_bytes.result ≡ block = c.to_le_bytes.ensures ∙ le_bytes_8 block c.from_le_bytes.result c.told-block c.fits-block c.from_le_bytes.ensures in
    rw (
      c.push_reserved-8.ensures.items,
      c.push_reserved-7.ensures.items,
      c.push_reserved-6.ensures.items,
      c.push_reserved-5.ensures.items,
      c.push_reserved-4.ensures.items,
      c.push_reserved-3.ensures.items,
      c.push_reserved-2.ensures.items,
      c.push_reserved.ensures.items,
      same,
    )
    (simp append_assoc (ap (λ l. c.args.text.items ++ l) (eight block c.told-block)))
