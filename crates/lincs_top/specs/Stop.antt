-- The report of a run, from the end of its command.
use denote.Ref.{Bor}
use Rattle.std.specs.Prelude.{ℕ, List, Option, None, Some, Result, Ok, Err}
use Rattle.lincs_top.specs.declared.stop.Verdict.{Verdict}
use Rattle.ranks_core.specs.declared.fault.EncodeFault.{EncodeFault}
use Rattle.ranks_core.specs.declared.fault.EncodeFault.TheVariants as encode
use Rattle.lincs_top.specs.declared.stop.Refusal.{Refusal}
use Rattle.lincs_top.specs.declared.stop.Size.TheVariants.{Wide, Large}
use Rattle.lincs_top.specs.declared.stop.Stop.{Stop}
use Rattle.lincs_top.specs.declared.stop.Stop.TheVariants.{Usage, Unread, Unwritten, Refused, TooLarge, NoMemory}
use Rattle.lincs_top.specs.End.{gave, unread, refused, over}
use Rattle.lincs_top.specs.Report.{Report, at_end, usage, unwritten, no_memory}

-- the stop of a file that is refused, or out of memory
abbrev pub stop_of : Bor (List ℕ) → Option Refusal → Stop
stop_of name (Some refusal) = Refused name refusal
stop_of name None = NoMemory

-- the stop of a formula that is too large, for so many criteria, or out of memory
abbrev pub size_stop : ℕ → EncodeFault → Stop
size_stop criteria encode.Wide = TooLarge (Wide criteria)
size_stop criteria (encode.TooLarge literals) = TooLarge (Large literals)
size_stop criteria encode.NoMemory = NoMemory

abbrev pub report_of : Result Verdict Stop → Report
report_of (Ok verdict) = at_end (gave verdict)
report_of (Err (Usage fault)) = usage fault
report_of (Err (Unread name)) = at_end (unread name.now)
report_of (Err (Refused name refusal)) = at_end (refused name.now refusal)
report_of (Err (TooLarge size)) = at_end (over size)
report_of (Err Unwritten) = unwritten
report_of (Err NoMemory) = no_memory
