-- What a whole run does.
use Rattle.std.specs.Prelude.{◌≡◌, ◌⊎◌, ℕ, List, Result, Ok, Err, ⊤}
use Rattle.edge_core.specs.Outside.{ShelfState, SinkState, Rose}
use Rattle.lincs_top.specs.declared.status.Status.{Status}
use Rattle.lincs_top.specs.declared.status.Status.TheVariants as status
use Rattle.lincs_top.specs.declared.stop.Stop.{Stop}
use Rattle.lincs_top.specs.declared.stop.Verdict.{Verdict}
use Rattle.line_core.specs.declared.fault.LineFault.{LineFault}
use Rattle.line_core.specs.Command.{Command}
use Rattle.lincs_top.specs.End.{End, unread}
use Rattle.lincs_top.specs.Line.{Says, line_of_report}
use Rattle.lincs_top.specs.Obeys.{MayOpen, CanEnd, EndsSo, WritesPart, Misses, LeavesOnNoMemory, Causes, Keeps}
use Rattle.lincs_top.specs.Report.{Report, at_end, usage, status_of_report}
use Rattle.lincs_top.specs.Stop.{report_of}

-- the files of the command may be opened, and no other name
abbrev pub MayOpenIn : ShelfState → Result Command LineFault → Type 0
MayOpenIn shelf (Ok command) = MayOpen shelf command
MayOpenIn shelf (Err fault) = ⊤

-- the causes of a run's end: those of the command's end, or the fault of the line
abbrev pub CausesIn : Result Command LineFault → ShelfState → ShelfState → SinkState → SinkState → Report → Type 0
CausesIn (Ok command) shelf shelf' out out' report = Causes command shelf shelf' out out' report
CausesIn (Err fault) shelf shelf' out out' report = report ≡ usage fault

-- what holds however a run ends; if the line is no job, nothing is opened or written
abbrev pub KeepsIn : Result Command LineFault → ShelfState → ShelfState → SinkState → SinkState → Type 0
KeepsIn (Ok command) shelf shelf' out out' = Keeps command shelf shelf' out out'
KeepsIn (Err fault) shelf shelf' out out' = (shelf' ≡ shelf) × (out' ≡ out)

-- one report of the run: it has this status, its causes hold, and its line was written as far as it went
pub record Reports (asked : Result Command LineFault) (shelf shelf' : ShelfState) (out out' err err' : SinkState)
    (status : Status) : Type 0 where
  pub report : Report
  pub named : status ≡ status_of_report report
  pub causes : CausesIn asked shelf shelf' out out' report
  pub keeps : KeepsIn asked shelf shelf' out out'
  pub line : Says err err' (line_of_report report)

-- what the function that reads the line and does its job does
pub record DoesLine (asked : Result Command LineFault) (shelf shelf' : ShelfState) (out out' : SinkState)
    (result : Result Verdict Stop) : Type 0 where
  pub causes : CausesIn asked shelf shelf' out out' (report_of result)
  pub keeps : KeepsIn asked shelf shelf' out out'

-- the line is a job, over whose told files a course ends with this status: its whole output went out
pub record CourseEnds (asked : Result Command LineFault) (shelf shelf' : ShelfState) (out out' : SinkState)
    (status : Status) : Type 0 where
  pub command : Command
  pub is : asked ≡ Ok command
  pub end : End
  pub named : status_of_report (at_end end) ≡ status
  pub can : CanEnd command end
  pub ended : EndsSo command shelf shelf' out out' end

-- the line is a job of which a file could not be read
pub record ReadFails (asked : Result Command LineFault) (shelf shelf' : ShelfState) (out out' : SinkState) : Type 0
  where
    pub command : Command
    pub is : asked ≡ Ok command
    pub name : List ℕ
    pub named : CanEnd command (unread name)
    pub misses : Misses command shelf shelf' name
    pub silent : out' ≡ out

-- the line is a job whose output could not be written
pub record WriteFails (asked : Result Command LineFault) (shelf shelf' : ShelfState) (out out' : SinkState) : Type 0
  where
    pub command : Command
    pub is : asked ≡ Ok command
    pub rose : Rose out.faults out'.faults
    pub writes : WritesPart command shelf shelf' out out'

-- the line is a job that ran out of memory
pub record MemoryFails (asked : Result Command LineFault) (shelf shelf' : ShelfState) (out out' : SinkState) : Type 0
  where
    pub command : Command
    pub is : asked ≡ Ok command
    pub leaves : LeavesOnNoMemory command shelf shelf' out out'

-- the line is no job, and nothing is opened or written
pub record LineFails (asked : Result Command LineFault) (shelf shelf' : ShelfState) (out out' : SinkState) : Type 0
  where
    pub fault : LineFault
    pub is : asked ≡ Err fault
    pub closed : shelf' ≡ shelf
    pub silent : out' ≡ out

-- what each status tells
abbrev pub StatusTells : Result Command LineFault → ShelfState → ShelfState → SinkState → SinkState → Status → Type 0
StatusTells asked shelf shelf' out out' status.Usage = LineFails asked shelf shelf' out out'
StatusTells asked shelf shelf' out out' status.ReadFault = ReadFails asked shelf shelf' out out'
StatusTells asked shelf shelf' out out' status.WriteFault = WriteFails asked shelf shelf' out out'
StatusTells asked shelf shelf' out out' status.NoMemory = MemoryFails asked shelf shelf' out out'
StatusTells asked shelf shelf' out out' status.Done = CourseEnds asked shelf shelf' out out' status.Done
StatusTells asked shelf shelf' out out' status.No = CourseEnds asked shelf shelf' out out' status.No
StatusTells asked shelf shelf' out out' status.Refused = CourseEnds asked shelf shelf' out out' status.Refused
StatusTells asked shelf shelf' out out' status.Limit = CourseEnds asked shelf shelf' out out' status.Limit
StatusTells asked shelf shelf' out out' status.TooLarge = CourseEnds asked shelf shelf' out out' status.TooLarge

-- if no count rose, a run ends as a course does, or the line is no job, or memory ran out
abbrev pub Completes : Result Command LineFault → ShelfState → ShelfState → SinkState → SinkState → Status → Type 0
Completes asked shelf shelf' out out' result =
    (Rose shelf.faults shelf'.faults → ⊥) → (Rose out.faults out'.faults → ⊥)
    → (result ≡ status.Usage) ⊎ (result ≡ status.NoMemory) ⊎ CourseEnds asked shelf shelf' out out' result
