-- The names that the calls of a shelf were given. No code reads them.
use Rattle.std.specs.Prelude.{ℕ, List, [], ◌∷◌, ◌++◌, Option, None, Some}
use Rattle.edge_core.specs.declared.name_note.Event.{Event}
use Rattle.edge_core.specs.declared.name_note.Event.TheVariants.{Opened, NotOpened, NotRead, Closed}

pub record Names : Type 0 where
  -- the names that `open` was asked for, in order
  pub asked : List (List ℕ)
  -- the name of the open file
  pub opened : Option (List ℕ)
  -- the name at which the last fault came
  pub missed : Option (List ℕ)

abbrev pub no_names : Names
no_names = record { asked = []; opened = None; missed = None }

-- the names after what a call did
abbrev pub names_after : Names → Event → Names
names_after names (Opened name) =
    record { asked = names.asked ++ name.now ∷ []; opened = Some name.now; missed = names.missed }
names_after names (NotOpened name) =
    record { asked = names.asked ++ name.now ∷ []; opened = None; missed = Some name.now }
names_after names NotRead = record { asked = names.asked; opened = names.opened; missed = names.opened }
names_after names Closed = record { asked = names.asked; opened = None; missed = names.missed }
