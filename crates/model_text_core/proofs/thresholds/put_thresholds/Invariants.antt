use Rattle.std.proofs.Common.{drop, map}
use Rattle.written_core.proofs.PutLemmas.{IsPut}
use Rattle.written_core.specs.Parts.{left_text}
use Rattle.model_text_core.specs.ModelText.{threshold_scalar}
use Rattle.model_text_core.proofs.thresholds.put_thresholds.Given as goal

-- the items before a place were appended
abbrev pub invariant-loop-i : goal.invariant-loop-i
invariant-loop-i l = IsPut l.initial.out.items l.out.items (left_text 0 (map (threshold_scalar l.criterion.scale) l.thresholds)) (left_text l.i (map (threshold_scalar l.criterion.scale) (drop l.i l.thresholds)))
