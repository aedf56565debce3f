use Rattle.std.proofs.Common.{drop, map}
use Rattle.written_core.proofs.PutLemmas.{IsPut}
use Rattle.report_core.specs.Text.{numbered, item_text}
use Rattle.report_core.specs.DescribedModel.{places_text}
use Rattle.report_core.proofs.model_text.put_roots.Given as goal

abbrev pub invariant-loop-place : goal.invariant-loop-place
invariant-loop-place l = IsPut l.initial.out.items l.out.items (numbered item_text 0 (map (places_text l.criteria) l.roots)) (numbered item_text l.place (drop l.place (map (places_text l.criteria) l.roots)))
