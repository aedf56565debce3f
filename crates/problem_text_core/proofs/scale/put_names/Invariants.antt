use Rattle.std.proofs.Common.{drop, map}
use Rattle.written_core.specs.Document.{Text}
use Rattle.written_core.proofs.PutLemmas.{IsPut}
use Rattle.written_core.specs.Parts.{left_text}
use Rattle.problem_text_core.proofs.scale.put_names.Given as goal

-- the names before a place were appended
abbrev pub invariant-loop-place : goal.invariant-loop-place
invariant-loop-place l = IsPut l.initial.out.items l.out.items (left_text 0 (map Text l.names)) (left_text l.place (map Text (drop l.place l.names)))
