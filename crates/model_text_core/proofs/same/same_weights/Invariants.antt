use Rattle.std.proofs.Common.{◌≡◌, drop}
use Rattle.model_text_core.specs.ModelText.{all_same}
use Rattle.model_text_core.proofs.same.same_weights.Given as goal

abbrev pub invariant-loop-i : goal.invariant-loop-i
invariant-loop-i l = all_same (drop l.i l.vs) (drop l.i l.ws) ≡ all_same l.vs l.ws
