use Rattle.std.proofs.Common.{◌≡◌, ◌-◌, ◌≤◌, Some, [], ◌∷◌, ◌++◌, length}
use Rattle.edge_core.specs.Outside.{KeepsHeld}
use Rattle.edge_core.specs.declared.whole_file.TheConstants.{MOST_BYTES}
use Rattle.edge_core.proofs.SoFar.{SoFar}
use Rattle.edge_core.proofs.whole_file.load.Given as goal

abbrev pub invariant-loop-bytes : goal.invariant-loop-bytes
invariant-loop-bytes g l = record {
  held : KeepsHeld (g.S.Shelf.state l.fn.shelf) (g.S.Shelf.state l.shelf);
  opened : (g.S.Shelf.state l.shelf).opened ≡ Some l.name;
  asked : (g.S.Shelf.state l.shelf).asked ≡ (g.S.Shelf.state l.fn.shelf).asked ++ l.name ∷ [];
  taken : (g.S.Shelf.state l.shelf).taken ≡ length l.bytes.items;
  short : length l.bytes.items ≤ MOST_BYTES;
  so_far : SoFar (g.S.Shelf.state l.fn.shelf).held l.name l.bytes.items (g.S.Shelf.state l.shelf).left;
  later : (g.S.Shelf.state l.fn.shelf).faults ≤ (g.S.Shelf.state l.shelf).faults;
}

abbrev pub decreases-loop-bytes : goal.decreases-loop-bytes
decreases-loop-bytes g l = MOST_BYTES - length l.bytes.items
