-- A text on its way to a sink: what went out, and what is held for the next write.
use Rattle.std.specs.Prelude.{◌≡◌, ℕ, List, ◌++◌, Option, Result, OnOk, OnErr}
use Rattle.std.specs.Io.KnownBytes.{Appends}
use Rattle.edge_core.specs.Outside.{SinkState, HasCause, AppendsPart}

-- the first of these bytes went out, and the others are held
pub record GoesOn (old new : Option (List ℕ)) (bytes held : List ℕ) : Type 0 where
  pub front : List ℕ
  pub parts : bytes ≡ front ++ held
  pub went : Appends old new front

-- a text follows the bytes that were held before: all of it went out or is held after; or the count rose, and only a
-- part of these bytes went out
pub record Streams {T E : Type 0} (old new : SinkState) (before after text : List ℕ) (result : Result T E) : Type 0
  where
    pub whole : OnOk result (GoesOn old.written new.written (before ++ text) after)
    pub part : OnErr result (AppendsPart old.written new.written (before ++ text))
    pub cause : HasCause old.faults new.faults result
