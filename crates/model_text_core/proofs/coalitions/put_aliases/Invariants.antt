use Rattle.std.proofs.Common.{◌≡◌, ◌++◌, take}
use Rattle.std.specs.List.{flat_map}
use Rattle.model_text_core.specs.Parts.{alias_text}
use Rattle.model_text_core.proofs.coalitions.put_aliases.Given as goal

-- what was put so far
abbrev pub invariant-loop : goal.invariant-loop
invariant-loop l = l.out.items ≡ l.initial.out.items ++ flat_map alias_text (take l.index l.rows)
