-- The error line of a run.
use Rattle.std.specs.Prelude.{◌≡◌, ◌≤◌, ℕ, List, [], ◌∷◌, ◌++◌, Option, None, Some, codes, decimal}
use Rattle.std.specs.List.{concat}
use Rattle.std.specs.Io.KnownBytes.{Appends}
use Rattle.edge_core.specs.Outside.{SinkState, Rose}
use Rattle.chain_core.specs.declared.fault.LogFault.{LogFault}
use Rattle.chain_core.specs.declared.fault.LogFault.TheVariants as log
use Rattle.line_core.specs.declared.fault.LineFault.{LineFault}
use Rattle.table_core.specs.declared.fault.RowFault.{RowFault}
use Rattle.table_core.specs.declared.fault.RowFault.TheVariants as row
use Rattle.lincs_top.specs.declared.fault_numbers.FaultNumber.{FaultNumber}
use Rattle.lincs_top.specs.declared.line.Part.{Part}
use Rattle.lincs_top.specs.declared.line.Part.TheVariants.{Text, Number, Long, Huge}
use Rattle.lincs_top.specs.declared.stop.Refusal.{Refusal}
use Rattle.lincs_top.specs.declared.stop.Refusal.TheVariants as refusal
use Rattle.lincs_top.specs.declared.stop.Size.{Size}
use Rattle.lincs_top.specs.declared.stop.Size.TheVariants as size
use Rattle.lincs_top.specs.declared.stop.Verdict.TheVariants as verdict
use Rattle.report_core.specs.Prefix.{AppendsPrefix}
use Rattle.lincs_top.specs.End.{gave, unread, refused, over}
use Rattle.lincs_top.specs.FaultNumbers.{yaml_number, problem_number, model_number, table_number, grade_number}
use Rattle.lincs_top.specs.FaultNumbers.{line_number}
use Rattle.lincs_top.specs.Report.{Report, at_end, usage, unwritten, no_memory}

-- a line about a file
abbrev pub about : List ℕ → List ℕ → List ℕ
about name text = concat (codes "lincs: " ∷ name ∷ codes ": " ∷ []) ++ text

-- a fault's number, and its place, if it has one
abbrev pub numbered : List ℕ → ℕ → Option ℕ → List ℕ
numbered kind code None = concat (kind ∷ decimal code ∷ codes "\n" ∷ [])
numbered kind code (Some place) = concat (kind ∷ decimal code ∷ codes " at " ∷ decimal place ∷ codes "\n" ∷ [])

abbrev pub of_kind : List ℕ → FaultNumber → List ℕ
of_kind kind fault = numbered kind fault.code fault.place

abbrev pub row_text : RowFault → List ℕ
row_text row.NoMemory = codes "row \n"
row_text (row.Length number) = concat (codes "row " ∷ decimal number ∷ codes ": 1\n" ∷ [])
row_text (row.Grade number criterion fault) =
    concat (codes "row " ∷ decimal number ∷ codes ": 2 at " ∷ decimal criterion ∷ codes ": "
    ∷ decimal (grade_number fault) ∷ codes "\n" ∷ [])
row_text (row.Category number) = concat (codes "row " ∷ decimal number ∷ codes ": 3\n" ∷ [])

abbrev pub log_text : LogFault → List ℕ
log_text log.NoMemory = codes "log \n"
log_text log.Header = codes "log 1\n"
log_text (log.Shape line) = concat (codes "log 2 at line " ∷ decimal line ∷ codes "\n" ∷ [])

-- what follows the name of a refused file
abbrev pub refusal_text : Refusal → List ℕ
refusal_text refusal.TooLong = codes "too long\n"
refusal_text (refusal.Yaml fault) = of_kind (codes "yaml ") (yaml_number fault)
refusal_text (refusal.Problem fault) = of_kind (codes "problem ") (problem_number fault)
refusal_text (refusal.Model fault) = of_kind (codes "model ") (model_number fault)
refusal_text (refusal.Table fault) = of_kind (codes "table ") (table_number fault)
refusal_text (refusal.Row fault) = row_text fault
refusal_text (refusal.Log fault) = log_text fault

abbrev pub usage_text : ℕ × ℕ → List ℕ
usage_text number =
    concat (codes "lincs: usage " ∷ decimal number.0 ∷ codes " at word " ∷ decimal number.1 ∷ codes "\n" ∷ [])

abbrev pub usage_line : LineFault → List ℕ
usage_line fault = usage_text (line_number fault)

abbrev pub rejected_line : ℕ → Option ℕ → List ℕ
rejected_line code None = concat (codes "lincs: refutation rejected: " ∷ decimal code ∷ codes "\n" ∷ [])
rejected_line code (Some line) =
    concat (codes "lincs: refutation rejected: " ∷ decimal code ∷ codes " at line " ∷ decimal line ∷ codes "\n" ∷ [])

abbrev pub size_line : Size → List ℕ
size_line (size.Wide criteria) = concat (codes "lincs: too wide: " ∷ decimal criteria ∷ codes " criteria\n" ∷ [])
size_line (size.Large literals) = concat (codes "lincs: too large: " ∷ decimal literals ∷ codes " literals\n" ∷ [])

-- the bytes of the error line of a run; a verdict that needs no line has none
abbrev pub line_of_report : Report → List ℕ
line_of_report (at_end (gave verdict.Done)) = []
line_of_report (at_end (gave verdict.No)) = []
line_of_report (at_end (gave (verdict.Rejected code line))) = rejected_line code line
line_of_report (at_end (gave (verdict.Limit most))) =
    concat (codes "lincs: limit of " ∷ decimal most ∷ codes " reached\n" ∷ [])
line_of_report (at_end (unread name)) = concat (codes "lincs: cannot read " ∷ name ∷ codes "\n" ∷ [])
line_of_report (at_end (refused name why)) = about name (refusal_text why)
line_of_report (at_end (over size)) = size_line size
line_of_report (usage fault) = usage_line fault
line_of_report unwritten = codes "lincs: cannot write\n"
line_of_report no_memory = codes "lincs: out of memory\n"

-- a text, or a number in decimal digits
abbrev pub part_text : Part → List ℕ
part_text (Text text) = text.now
part_text (Number number) = decimal number
part_text (Long number) = decimal number
part_text (Huge number) = decimal number

-- a prefix of the line was written, the whole line if the count didn't rise, and nothing if there is no line;
-- the count doesn't fall
pub record Says (old new : SinkState) (line : List ℕ) : Type 0 where
  pub prefix : AppendsPrefix old.written new.written line
  pub whole : (Rose old.faults new.faults → ⊥) → Appends old.written new.written line
  pub silent : line ≡ [] → new ≡ old
  pub later : old.faults ≤ new.faults
