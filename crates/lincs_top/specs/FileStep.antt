-- What the step of a file does.
use Rattle.std.specs.Prelude.{◌≡◌, ◌<◌, ◌≤◌, ◌++◌, ℕ, List, [], ◌∷◌, Some, Result, Ok, Err, ⊤, Vec, length}
use Rattle.std.specs.declared.alloc.Global.{Global}
use Rattle.std.specs.Option.{ForSome}
use Rattle.edge_core.specs.Outside.{Files, ShelfState, KeepsHeld, Rose}
use Rattle.lincs_top.specs.declared.stop.Refusal.{Refusal}
use Rattle.lincs_top.specs.declared.stop.Refusal.TheVariants.{TooLong}
use Rattle.lincs_top.specs.declared.stop.Stop.{Stop}
use Rattle.lincs_top.specs.declared.stop.Stop.TheVariants.{Usage, Unread, Unwritten, Refused, TooLarge, NoMemory}
use Rattle.lincs_top.specs.End.{End, refused}
use Rattle.lincs_top.specs.FileGives.{FileStep, most_bytes, bytes_in, given}

-- over told files a file gives just this
abbrev pub Gives : {A : Type 0} → ShelfState → (Files → List ℕ → Result A End) → List ℕ → Result A End → Type 0
Gives shelf giving name result = ForSome shelf.held (λ files. giving files name ≡ result)

-- too long is said of the file that is open, of which more bytes were taken
abbrev pub HasCauseIn : ShelfState → List ℕ → Refusal → Type 0
HasCauseIn shelf name refusal = refusal ≡ TooLong → (most_bytes < shelf.taken) × (shelf.opened ≡ Some name)

-- why a step stopped; a file that can't be read has its cause
abbrev pub StopsAs : {A : Type 0} → ShelfState → ShelfState → (Files → List ℕ → Result A End) → List ℕ → Stop → Type 0
StopsAs old new giving name (Unread file) = (file.now ≡ name) × Rose old.faults new.faults × (new.missed ≡ Some name)
StopsAs old new giving name (Refused file refusal) =
    (file.now ≡ name) × Gives old giving name (Err (refused name refusal)) × HasCauseIn new name refusal
StopsAs old new giving name NoMemory = ⊤
StopsAs old new giving name Unwritten = ⊥
StopsAs old new giving name (Usage fault) = ⊥
StopsAs old new giving name (TooLarge size) = ⊥

-- a step's result is what the file gives
abbrev pub StepGives : {A : Type 0} → ShelfState → ShelfState → (Files → List ℕ → Result A End) → List ℕ
    → Result A Stop → Type 0
StepGives old new giving name (Ok value) = Gives old giving name (Ok value)
StepGives old new giving name (Err stop) = StopsAs old new giving name stop

abbrev pub BytesGiven : ShelfState → ShelfState → List ℕ → Result (Vec ℕ Global) Stop → Type 0
BytesGiven old new name (Ok bytes) = Gives old bytes_in name (Ok bytes.items) × (length bytes.items ≤ most_bytes)
BytesGiven old new name (Err stop) = StopsAs old new bytes_in name stop

-- one file was opened, the one of this name; what the shelf holds stays, and its count doesn't fall
pub record OpensOne (old new : ShelfState) (name : List ℕ) : Type 0 where
  pub held : KeepsHeld old new
  pub later : old.faults ≤ new.faults
  pub asked : new.asked ≡ old.asked ++ name ∷ []

-- one file was opened, and the step's result is what it gives
pub record TakesStep {A : Type 0} (old new : ShelfState) (step : FileStep A) (name : List ℕ)
    (result : Result A Stop) : Type 0 where
  pub opens : OpensOne old new name
  pub gives : StepGives old new (given step) name result

-- the same of its bytes
pub record TakesBytes (old new : ShelfState) (name : List ℕ) (result : Result (Vec ℕ Global) Stop) : Type 0 where
  pub opens : OpensOne old new name
  pub gives : BytesGiven old new name result
