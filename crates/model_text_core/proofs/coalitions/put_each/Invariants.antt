use Rattle.std.proofs.Common.{◌≡◌, ◌++◌, take}
use Rattle.std.specs.List.{flat_map}
use Rattle.model_text_core.specs.Parts.{item_text}
use Rattle.model_text_core.proofs.coalitions.put_each.Given as goal

-- what was put so far
abbrev pub invariant-loop-coalitions : goal.invariant-loop-coalitions
invariant-loop-coalitions l = l.out.items ≡ l.initial.out.items ++ flat_map (item_text l.count) (take l.coalitions-index l.rows)
