-- How a run ends.
use Rattle.lincs_top.specs.declared.status.Status.{Status}
use Rattle.lincs_top.specs.declared.status.Status.TheVariants as status
use Rattle.lincs_top.specs.declared.stop.Verdict.TheVariants as verdict
use Rattle.line_core.specs.declared.fault.LineFault.{LineFault}
use Rattle.lincs_top.specs.End.{End, gave, unread, refused, over}

-- the end of a course, or the line is no job, or the output can't be written, or memory ran out
pub data Report : Type 0 where
  at_end : End → Report
  usage : LineFault → Report
  unwritten : Report
  no_memory : Report

abbrev pub status_of_report : Report → Status
status_of_report (at_end (gave verdict.Done)) = status.Done
status_of_report (at_end (gave verdict.No)) = status.No
status_of_report (at_end (gave (verdict.Rejected code line))) = status.No
status_of_report (at_end (gave (verdict.Limit most))) = status.Limit
status_of_report (at_end (unread name)) = status.ReadFault
status_of_report (at_end (refused name refusal)) = status.Refused
status_of_report (at_end (over size)) = status.TooLarge
status_of_report (usage fault) = status.Usage
status_of_report unwritten = status.WriteFault
status_of_report no_memory = status.NoMemory
