-- What a command's function does, measured by the command's course.
use Rattle.std.specs.Prelude.{◌≡◌, ◌⊎◌, ◌≤◌, ◌++◌, ℕ, true, List, [], ◌∷◌, Option, Some, take, Result, Contains, All}
use Rattle.std.specs.Prelude.{IsTrue, ⊤}
use Rattle.std.specs.Io.KnownBytes.{Appends}
use Rattle.chain_core.specs.declared.fault.CheckFault.{CheckFault}
use Rattle.edge_core.specs.Outside.{Files, ShelfState, SinkState, KeepsHeld, Rose, AppendsPart}
use Rattle.lincs_top.specs.declared.stop.Verdict.{Verdict}
use Rattle.lincs_top.specs.declared.stop.Verdict.TheVariants.{Done, No, Limit}
use Rattle.lincs_top.specs.declared.stop.Stop.{Stop}
use Rattle.line_core.specs.Command.{Command, classifying, rating, learning, encoding, checking, describing_problem}
use Rattle.line_core.specs.Command.{describing_model, describing_table, generating_problem, generating_model}
use Rattle.line_core.specs.Command.{generating_table, rehearsing}
use Rattle.lincs_top.specs.Command.{names_of, streams, makes_formula}
use Rattle.lincs_top.specs.Course.{World, Ends, readable, unreadable_at}
use Rattle.report_core.specs.Prefix.{AppendsPrefix}
use Rattle.lincs_top.specs.End.{End, gave, unread, refused, over, Outcome}
use Rattle.lincs_top.specs.FileStep.{HasCauseIn}
use Rattle.lincs_top.specs.Judged.{rejected}
use Rattle.lincs_top.specs.Report.{Report, at_end, usage, unwritten, no_memory}
use Rattle.lincs_top.specs.Stop.{report_of}

-- the command's files may be opened
abbrev pub MayOpen : ShelfState → Command → Type 0
MayOpen shelf command = All (λ name. IsTrue (shelf.may_open name)) (names_of command)

-- the verdicts that a command can give, whatever its files hold
abbrev pub CanGive : Command → Verdict → Type 0
CanGive (classifying problem model table) verdict = verdict ≡ Done
CanGive (rating problem model table) verdict = verdict ≡ Done
CanGive (learning problem table how most) verdict = (verdict ≡ Done) ⊎ (verdict ≡ No) ⊎ (verdict ≡ Limit most)
CanGive (encoding problem table how) verdict = verdict ≡ Done
CanGive (checking problem table refutation) verdict =
    (verdict ≡ Done) ⊎ ((fault : CheckFault) × (verdict ≡ rejected fault))
CanGive (describing_problem problem) verdict = verdict ≡ Done
CanGive (describing_model problem model) verdict = verdict ≡ Done
CanGive (describing_table problem table) verdict = verdict ≡ Done
CanGive (generating_problem criteria categories seed) verdict = verdict ≡ Done
CanGive (generating_model problem seed) verdict = verdict ≡ Done
CanGive (generating_table problem model rows seed) verdict = verdict ≡ Done
CanGive (rehearsing criteria categories rows seed) verdict = (verdict ≡ Done) ⊎ (verdict ≡ Limit 100000)

-- the ends that a command can come to, whatever its files hold
abbrev pub CanEnd : Command → End → Type 0
CanEnd command (gave verdict) = CanGive command verdict
CanEnd command (unread name) = Contains (names_of command) name
CanEnd command (refused name refusal) = Contains (names_of command) name
CanEnd command (over size) = makes_formula command ≡ true

-- the shelf tells that it holds these files; if no file is named, it need tell none
abbrev pub TellsOf : List (List ℕ) → Option Files → Files → Type 0
TellsOf [] held files = ⊤
TellsOf (name ∷ names) held files = held ≡ Some files

abbrev pub Tells : Command → ShelfState → Files → Type 0
Tells command shelf files = TellsOf (names_of command) shelf.held files

-- the first files of the command, so many, were opened, in order and each once
abbrev pub OpensFirst : Command → ℕ → ShelfState → ShelfState → Type 0
OpensFirst command count shelf shelf' = shelf'.asked ≡ shelf.asked ++ take count (names_of command)

-- over told files a course in this world ends in this way, and no file was opened but its own
abbrev pub SomeCourse : Command → ShelfState → ShelfState → (Files → World) → (Outcome → Type 0) → Type 0
SomeCourse command shelf shelf' world Is =
    (files : Files) → Tells command shelf files → (outcome : Outcome) × Ends command (world files) outcome
    × Is outcome × OpensFirst command outcome.opened shelf shelf'

-- over told files a course ends so, and its whole output went out
abbrev pub EndsSo : Command → ShelfState → ShelfState → SinkState → SinkState → End → Type 0
EndsSo command shelf shelf' out out' end =
    SomeCourse command shelf shelf' readable
    (λ outcome. (outcome.end ≡ end) × Appends out.written out'.written outcome.output)

-- a part of the output of a course went out, and something was still to go
abbrev pub WritesPart : Command → ShelfState → ShelfState → SinkState → SinkState → Type 0
WritesPart command shelf shelf' out out' =
    SomeCourse command shelf shelf' readable (λ outcome. AppendsPart out.written out'.written outcome.output)

-- out of memory, nothing was written; but if the command streams, a prefix of the output of a course
abbrev pub LeavesOnNoMemory : Command → ShelfState → ShelfState → SinkState → SinkState → Type 0
LeavesOnNoMemory command shelf shelf' out out' = (out' ≡ out)
    ⊎ ((streams command ≡ true) × SomeCourse command shelf shelf' readable
    (λ outcome. AppendsPrefix out.written out'.written outcome.output))

-- a file was missed after the files before it passed their steps, and none was opened after it
pub record Misses (command : Command) (shelf shelf' : ShelfState) (name : List ℕ) : Type 0 where
  pub rose : Rose shelf.faults shelf'.faults
  pub missed : shelf'.missed ≡ Some name
  pub place : ℕ
  pub reached : SomeCourse command shelf shelf' (λ files. unreadable_at files place)
      (λ outcome. outcome.end ≡ unread name)

-- the causes of a command's end
abbrev pub Causes : Command → ShelfState → ShelfState → SinkState → SinkState → Report → Type 0
Causes command shelf shelf' out out' (at_end (gave verdict)) =
    CanEnd command (gave verdict) × EndsSo command shelf shelf' out out' (gave verdict)
Causes command shelf shelf' out out' (at_end (unread name)) =
    CanEnd command (unread name) × Misses command shelf shelf' name × (out' ≡ out)
Causes command shelf shelf' out out' (at_end (refused name refusal)) =
    CanEnd command (refused name refusal) × EndsSo command shelf shelf' out out' (refused name refusal)
    × HasCauseIn shelf' name refusal
Causes command shelf shelf' out out' (at_end (over size)) =
    CanEnd command (over size) × EndsSo command shelf shelf' out out' (over size)
Causes command shelf shelf' out out' unwritten =
    Rose out.faults out'.faults × WritesPart command shelf shelf' out out'
Causes command shelf shelf' out out' no_memory = LeavesOnNoMemory command shelf shelf' out out'
Causes command shelf shelf' out out' (usage fault) = ⊥

-- what holds however a command ends: what the shelf holds stays, the counts don't fall, and the command's files
-- were opened in order, each at most once
pub record Keeps (command : Command) (shelf shelf' : ShelfState) (out out' : SinkState) : Type 0 where
  pub held : KeepsHeld shelf shelf'
  pub shelf_later : shelf.faults ≤ shelf'.faults
  pub out_later : out.faults ≤ out'.faults
  pub asked : (count : ℕ) × OpensFirst command count shelf shelf'

-- what a command's function does
pub record Obeys (command : Command) (shelf shelf' : ShelfState) (out out' : SinkState)
    (result : Result Verdict Stop) : Type 0 where
  pub keeps : Keeps command shelf shelf' out out'
  pub causes : Causes command shelf shelf' out out' (report_of result)
