use Rattle.std.proofs.Common.{◌∷◌, []}
use Rattle.std.specs.List.{flat_map}
use Rattle.table_core.specs.Written.{field_text, next_text}
use Rattle.table_core.proofs.WrittenFacts.{record_text-between, appended}
use Rattle.table_core.proofs.plain.push_record.Goals as goal

pub returns-clause-whole : goal.returns-clause-whole
returns-clause-whole g c =
    rw (record_text-between c.args.name.now (g.C.Cells.cells c.args.cells.now) c.args.category.now)
    (appended c.args.text.items (field_text c.args.name.now) (flat_map next_text (g.C.Cells.cells c.args.cells.now)) (next_text c.args.category.now) (10 ∷ [])
    _ _ _ c.push_byte.result c.in_ok-text.ensures.whole c.in_ok-text-2.ensures.whole c.in_ok-text-3.ensures.whole c.push_byte.ensures.whole)
