-- What the steps of writing a table leave, each by its result.
use Rattle.std.specs.Prelude.{◌≡◌, ◌≢◌, ◌<◌, ◌+◌, ◌++◌, ℕ, Bool, true, false, List, length, None, Some, Result, Ok, Err}
use Rattle.std.specs.Io.KnownBytes.{Appends}
use Rattle.edge_core.specs.Outside.{SinkState, Rose, AppendsPart}
use Rattle.problem_core.specs.Problem.{ProblemValue}
use Rattle.sorting_rule.specs.Model.{Model}
use Rattle.table_core.specs.Rows.{rows_left}
use Rattle.table_core.specs.Table.{TableState}
use Rattle.table_core.specs.declared.fault.RowFault.{RowFault}
use Rattle.table_core.specs.declared.fault.RowFault.TheVariants as row
use Rattle.report_core.specs.Classified.{rows_text}
use Rattle.report_core.specs.Prefix.{IsPrefix, AppendsPrefix}
use Rattle.report_core.specs.declared.fault.ReportFault.{ReportFault}
use Rattle.report_core.specs.declared.fault.ReportFault.TheVariants as fault

-- some rows were taken from a table, and their records are this piece; the others are left
pub record TakesRows (problem : ProblemValue) (model : Model) (old new : TableState) (piece : List ℕ) : Type 0 where
  pub text : rows_text problem model old ≡ piece ++ rows_text problem model new
  pub end : (rows_left problem old).1 ≡ (rows_left problem new).1
  pub count : old.number + length (rows_left problem old).0 ≡ new.number + length (rows_left problem new).0

-- all rows that a table had left were read, and there is no fault
pub record TakesAll (problem : ProblemValue) (old new : TableState) : Type 0 where
  pub fine : (rows_left problem old).1 ≡ None
  pub count : new.number ≡ old.number + length (rows_left problem old).0

-- the records of the next rows were gathered in a piece
abbrev pub Gathers : ProblemValue → Model → TableState → TableState → List ℕ → Result Bool RowFault → Type 0
Gathers problem model old new piece (Ok true) =
    TakesRows problem model old new piece × (length new.left < length old.left)
Gathers problem model old new piece (Ok false) = (piece ≡ rows_text problem model old) × TakesAll problem old new
Gathers problem model old new piece (Err why) = IsPrefix piece (rows_text problem model old)
    × (why ≢ row.NoMemory → (piece ≡ rows_text problem model old) × ((rows_left problem old).1 ≡ Some why))

-- the fault of a row, or of the output, or out of memory: what of the text was written then
abbrev pub EndsWriting : ProblemValue → TableState → List ℕ → SinkState → SinkState → ReportFault → Type 0
EndsWriting problem table text old new (fault.Row why) =
    Appends old.written new.written text × ((rows_left problem table).1 ≡ Some why) × (why ≢ row.NoMemory)
EndsWriting problem table text old new fault.Write =
    Rose old.faults new.faults × AppendsPart old.written new.written text
EndsWriting problem table text old new fault.NoMemory = AppendsPrefix old.written new.written text

-- a piece was gathered and written
abbrev pub WritesPiece : ProblemValue → Model → TableState → TableState → SinkState → SinkState
    → Result Bool ReportFault → Type 0
WritesPiece problem model table table' old new (Ok true) =
    (piece : List ℕ) × TakesRows problem model table table' piece × Appends old.written new.written piece
    × (length table'.left < length table.left)
WritesPiece problem model table table' old new (Ok false) =
    Appends old.written new.written (rows_text problem model table) × TakesAll problem table table'
WritesPiece problem model table table' old new (Err why) =
    EndsWriting problem table (rows_text problem model table) old new why

-- the rows that a table has left were written, after the header
abbrev pub WritesRows : ProblemValue → TableState → List ℕ → SinkState → SinkState → Result ℕ ReportFault → Type 0
WritesRows problem table text old new (Ok count) =
    Appends old.written new.written text × ((rows_left problem table).1 ≡ None)
    × (count ≡ length (rows_left problem table).0)
WritesRows problem table text old new (Err why) = EndsWriting problem table text old new why
