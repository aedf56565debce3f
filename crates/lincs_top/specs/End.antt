-- How a course ends.
use Rattle.std.specs.Prelude.{ℕ, List, []}
use Rattle.lincs_top.specs.declared.stop.Verdict.{Verdict}
use Rattle.lincs_top.specs.declared.stop.Refusal.{Refusal}
use Rattle.lincs_top.specs.declared.stop.Size.{Size}

-- the command gives its verdict, or a file can't be read, or a file is refused, or the formula asked for is too large
pub data End : Type 0 where
  gave : Verdict → End
  unread : List ℕ → End
  refused : List ℕ → Refusal → End
  over : Size → End

-- what a course comes to: its end, the whole output, and how many of the command's files are opened until then
pub record Outcome : Type 0 where
  pub end : End
  pub output : List ℕ
  pub opened : ℕ

abbrev pub silent : ℕ → End → Outcome
silent opened end = record { end = end; output = []; opened = opened }
