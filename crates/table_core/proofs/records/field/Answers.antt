use Rattle.std.proofs.Common.{sym}
use Rattle.csv.specs.Records.{fields_of}
use Rattle.csv.proofs.RecordFacts.{field-get}
use Rattle.table_core.proofs.NameFacts.{field-past}
use Rattle.table_core.proofs.records.field.Goals as goal

pub returns-in-Some : goal.returns-in-Some
returns-in-Some c = sym (field-get (fields_of c.args.fields.now) c.args.column c.in-Some.text.now (sym c.in-Some.ensures.value))

pub returns-in-None : goal.returns-in-None
returns-in-None c = field-past (fields_of c.args.fields.now) c.args.column (sym c.in-None.ensures.value)
