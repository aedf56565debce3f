-- What writing the output does.
use Rattle.std.specs.Prelude.{◌≡◌, ◌≢◌, ◌⊎◌, ◌≤◌, ℕ, Bool, true, List, Result, Ok, Err, Vec, IfOk}
use Rattle.std.specs.declared.alloc.Global.{Global}
use Rattle.std.specs.Io.KnownBytes.{Appends}
use Rattle.edge_core.specs.Outside.{SinkState, Rose, AppendsPart}
use Rattle.report_core.specs.Prefix.{AppendsPrefix}
use Rattle.lincs_top.specs.declared.stop.Verdict.{Verdict}
use Rattle.lincs_top.specs.declared.stop.Refusal.TheVariants.{TooLong}
use Rattle.lincs_top.specs.declared.stop.Stop.{Stop}
use Rattle.lincs_top.specs.declared.stop.Stop.TheVariants.{Usage, Unread, Unwritten, Refused, TooLarge, NoMemory}
use Rattle.lincs_top.specs.End.{End, gave, refused, over}

-- The course ends so and this text is its output: all of it went out, or a part if the output failed. Out of
-- memory, nothing went out, or a prefix if the command streams.
abbrev pub ConcludesAs : Bool → End → List ℕ → SinkState → SinkState → Result Verdict Stop → Type 0
ConcludesAs streaming end text old new (Ok verdict) = (end ≡ gave verdict) × Appends old.written new.written text
ConcludesAs streaming end text old new (Err (Refused name why)) =
    (end ≡ refused name.now why) × (why ≢ TooLong) × Appends old.written new.written text
ConcludesAs streaming end text old new (Err (TooLarge size)) =
    (end ≡ over size) × Appends old.written new.written text
ConcludesAs streaming end text old new (Err Unwritten) =
    Rose old.faults new.faults × AppendsPart old.written new.written text
ConcludesAs streaming end text old new (Err NoMemory) =
    (new ≡ old) ⊎ ((streaming ≡ true) × AppendsPrefix old.written new.written text)
ConcludesAs streaming end text old new (Err (Unread name)) = ⊥
ConcludesAs streaming end text old new (Err (Usage fault)) = ⊥

pub record Concludes (streaming : Bool) (end : End) (text : List ℕ) (old new : SinkState)
    (result : Result Verdict Stop) : Type 0 where
  pub later : old.faults ≤ new.faults
  pub gives : ConcludesAs streaming end text old new result

-- a text in memory, unless memory ran out
abbrev pub MakesText : {E : Type 0} → List ℕ → Result (Vec ℕ Global) E → Type 0
MakesText text result = IfOk result (λ made. made.items ≡ text)
