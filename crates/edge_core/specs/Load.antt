-- What `load` returns, and what it leaves of the file.
use Rattle.std.specs.Prelude.{◌≡◌, ◌<◌, ◌≤◌, ℕ, List, length, drop, Option, Some, IfSome, Result, Ok, Err, ⊤, Vec}
use Rattle.std.specs.declared.alloc.Global.{Global}
use Rattle.edge_core.specs.declared.whole_file.LoadFault.{LoadFault}
use Rattle.edge_core.specs.declared.whole_file.LoadFault.TheVariants.{Read, TooLong, NoMemory}
use Rattle.edge_core.specs.Outside.{Files, ShelfState, bytes_of}

-- what is returned for a file of these bytes: TooLong only for more than 64 MiB, and Ok only for no more
abbrev pub LoadsAs : List ℕ → Result (Vec ℕ Global) LoadFault → Type 0
LoadsAs bytes (Ok v) = (v.items ≡ bytes) × (length bytes ≤ 67108864)
LoadsAs bytes (Err TooLong) = 67108864 < length bytes
LoadsAs bytes (Err Read) = ⊤
LoadsAs bytes (Err NoMemory) = ⊤

-- the file of this name is open, and if the shelf tells what it holds, what is left of the file comes after what was
-- taken
pub record IsOpenAt (held : Option Files) (name : List ℕ) (state : ShelfState) : Type 0 where
  pub opened : state.opened ≡ Some name
  pub left : IfSome held (λ files. state.left ≡ Some (drop state.taken (bytes_of files name)))
