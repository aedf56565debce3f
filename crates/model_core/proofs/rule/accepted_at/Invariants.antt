use Rattle.std.proofs.Common.{◌≡◌, drop}
use Rattle.sorting_rule.specs.Coalition.{mask_of}
use Rattle.sorting_rule.specs.Model.{accepted_flags}
use Rattle.model_core.specs.Model.{profiles_of}
use Rattle.model_core.proofs.rule.accepted_at.Given as goal

abbrev pub invariant-loop-i : goal.invariant-loop-i
invariant-loop-i l = l.set ≡ mask_of (drop l.i (accepted_flags (profiles_of l.problem.criteria l.model.profiles) l.place l.grades))
