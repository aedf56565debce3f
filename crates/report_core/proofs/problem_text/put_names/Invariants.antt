use Rattle.std.proofs.Common.{drop, map}
use Rattle.written_core.proofs.PutLemmas.{IsPut}
use Rattle.report_core.specs.Text.{numbered, item_text}
use Rattle.yaml_tokens.specs.Written.{quoted_text}
use Rattle.report_core.proofs.problem_text.put_names.Given as goal

abbrev pub invariant-loop-place : goal.invariant-loop-place
invariant-loop-place l = IsPut l.initial.out.items l.out.items (numbered item_text 0 (map quoted_text l.names)) (numbered item_text l.place (drop l.place (map quoted_text l.names)))
