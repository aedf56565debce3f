use Rattle.std.proofs.Common.{◌≡◌, ◌++◌, take}
use Rattle.std.specs.List.{flat_map}
use Rattle.model_text_core.specs.Parts.{root_text}
use Rattle.model_text_core.proofs.roots.put_roots.Given as goal

-- what was put so far
abbrev pub invariant-loop-root : goal.invariant-loop-root
invariant-loop-root l = l.out.items ≡ l.initial.out.items ++ flat_map (root_text l.count) (take l.root-index l.roots)
