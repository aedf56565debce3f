-- What a shelf and a sink mean, and what their calls leave.
use Rattle.std.specs.Prelude.{◌≡◌, ◌≢◌, ℕ, ◌+◌, ◌-◌, ◌^◌, ◌≤◌, min, Bool, List, [], ◌++◌, Option, Some, IfSome}
use Rattle.std.specs.Prelude.{unwrap_or, Result, OnOk, OnErr}
use Rattle.std.specs.Io.KnownBytes.{Appends}

-- the bytes that are held under a name, if any are
abbrev pub Files : Type 0
Files = List ℕ → Option (List ℕ)

-- the bytes of a file, and none if nothing is held under its name
abbrev pub bytes_of : Files → List ℕ → List ℕ
bytes_of files name = unwrap_or (files name) []

pub record ShelfState : Type 0 where
  -- what it holds, none if it does not tell
  pub held : Option Files
  -- which names may be opened
  pub may_open : List ℕ → Bool
  -- the name of the open file
  pub opened : Option (List ℕ)
  -- what is left of the open file, none if it does not tell
  pub left : Option (List ℕ)
  -- how many bytes were handed out since the last open
  pub taken : ℕ
  -- the count of faults
  pub faults : ℕ
  -- the name at which the last fault came
  pub missed : Option (List ℕ)
  -- the names that `open` was asked for, in order
  pub asked : List (List ℕ)

pub record SinkState : Type 0 where
  -- the bytes so far, none if it does not tell
  pub written : Option (List ℕ)
  -- the count of faults
  pub faults : ℕ

-- the last value of a count
abbrev pub last_count : ℕ
last_count = 2 ^ 64 - 1

-- one more, but a count stays at its last value
abbrev pub one_more : ℕ → ℕ
one_more count = min (count + 1) last_count

-- the count rose, or is at its last value
abbrev pub Rose : ℕ → ℕ → Type 0
Rose before now = one_more before ≤ now

-- a fault comes only if the count rose, and the count never falls
pub record HasCause {T E : Type 0} (before now : ℕ) (result : Result T E) : Type 0 where
  pub later : before ≤ now
  pub failed : OnErr result (Rose before now)

-- what it holds and which names may be opened stays
pub record KeepsHeld (old new : ShelfState) : Type 0 where
  pub files : new.held ≡ old.held
  pub names : new.may_open ≡ old.may_open

-- if the shelf tells, the held bytes of this name are left
abbrev pub Begins : Option Files → List ℕ → Option (List ℕ) → Type 0
Begins held name left = IfSome held (λ files. left ≡ Some (bytes_of files name))

-- a part of the bytes went out, and something was still to go out
pub record AppendsPart (old new : Option (List ℕ)) (bytes : List ℕ) : Type 0 where
  pub front : List ℕ
  pub rest : List ℕ
  pub parts : bytes ≡ front ++ rest
  pub unsent : rest ≢ []
  pub went : Appends old new front

-- the bytes went out whole; or the count rose, and a part of them went out
pub record Sends {T E : Type 0} (old new : SinkState) (bytes : List ℕ) (result : Result T E) : Type 0 where
  pub whole : OnOk result (Appends old.written new.written bytes)
  pub part : OnErr result (AppendsPart old.written new.written bytes)
  pub cause : HasCause old.faults new.faults result
