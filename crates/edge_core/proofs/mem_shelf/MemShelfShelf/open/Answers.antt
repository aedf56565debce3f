use Rattle.std.proofs.Common.{rules, inl, inr}
use Rattle.edge_core.proofs.mem_shelf.MemShelfShelf.open.Goals as goal
use Rattle.edge_core.proofs.mem_shelf.MemShelfShelf.open.Goals.{then-not-contains+in_default, else-not-contains}

pub returns-clause-only : goal.returns-clause-only
returns-clause-only c = elim c.if-not-contains.branch [ then-not-contains+in_default w ↦ inr (search rules) | else-not-contains w ↦ inl (search rules) ]
