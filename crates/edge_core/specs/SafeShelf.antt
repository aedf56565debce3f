-- What a shelf in memory that never fails means.
use Rattle.std.specs.Prelude.{None, Some, true, drop}
use Rattle.edge_core.specs.declared.safe_shelf.SafeShelf.{SafeShelf}
use Rattle.edge_core.specs.Outside.{Files, ShelfState}
use Rattle.edge_core.specs.Held.{held_in, bytes_of_place}

-- the bytes that are held under a name, if any are
abbrev pub safe_files : SafeShelf → Files
safe_files shelf = held_in shelf.files.items

abbrev pub safe_shelf_state : SafeShelf → ShelfState
safe_shelf_state shelf = record {
  held = Some (safe_files shelf);
  may_open = λ _. true;
  opened = shelf.note.names.opened;
  left = Some (drop shelf.taken (bytes_of_place shelf.files.items shelf.place));
  taken = shelf.taken;
  faults = 0;
  missed = None;
  asked = shelf.note.names.asked;
}
