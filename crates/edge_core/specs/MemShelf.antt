-- What a shelf in memory means.
use Rattle.std.specs.Prelude.{ℕ, List, Some, true, drop}
use Rattle.edge_core.specs.declared.mem_shelf.MemShelf.{MemShelf}
use Rattle.edge_core.specs.Outside.{Files, ShelfState, one_more}
use Rattle.edge_core.specs.Held.{held_in, bytes_of_place}

-- the bytes that are held under a name, if any are
abbrev pub mem_files : MemShelf → Files
mem_files shelf = held_in shelf.files.items

abbrev pub mem_shelf_state : MemShelf → ShelfState
mem_shelf_state shelf = record {
  held = Some (mem_files shelf);
  may_open = λ _. true;
  opened = shelf.note.names.opened;
  left = Some (drop shelf.taken (bytes_of_place shelf.files.items shelf.place));
  taken = shelf.taken;
  faults = shelf.faults;
  missed = shelf.note.names.missed;
  asked = shelf.note.names.asked;
}

-- the numbers of the calls that are to fail
abbrev pub listed : MemShelf → List ℕ
listed shelf = shelf.failing.items

-- how many calls of `open` and `read` were made
abbrev pub call_count : MemShelf → ℕ
call_count shelf = shelf.calls

-- the number of the next call
abbrev pub next_call : MemShelf → ℕ
next_call shelf = one_more (call_count shelf)
