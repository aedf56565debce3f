-- The ends of commands.
use Rattle.std.proofs.Common.{List, ℕ, Option, Some, None, Result, Ok, Err, refl, rules}
use Rattle.table_core.specs.declared.fault.RowFault.{RowFault}
use Rattle.line_core.specs.Command.{classifying, describing_table}
use Rattle.lincs_top.specs.Obeys.{CanEnd}
use Rattle.lincs_top.specs.Output.{end_of_rows, end_of_text}

-- whatever the rows hold, classifying can end as it does after them
pub rows_can_end : (problem model table : List ℕ) (why : Option RowFault) → CanEnd (classifying problem model table) (end_of_rows table why)
rows_can_end problem model table None = refl
rows_can_end problem model table (Some why) = (2, search rules, refl)

pub text_can_end : (problem table : List ℕ) (text : Result (List ℕ) RowFault) → CanEnd (describing_table problem table) (end_of_text table text)
text_can_end problem table (Ok text) = refl
text_can_end problem table (Err why) = (1, search rules, refl)
