use Rattle.std.proofs.Common.{◌≡◌, take}
use Rattle.std.specs.List.{All, AllZip}
use Rattle.model_core.specs.Model.{IsThreshold}
use Rattle.encoding_rules.specs.Each.{listed}
use Rattle.draw_core.specs.DrawnModel.{drawn_profile}
use Rattle.draw_core.proofs.model.drawn_profiles.Given as goal

abbrev pub invariant-loop-i : goal.invariant-loop-i
invariant-loop-i l = record {
  profiles : l.profiles.items ≡ listed (drawn_profile l.problem l.words) l.i;
  grades : AllZip (λ criterion p. All (IsThreshold criterion.scale) p.thresholds) (take l.i l.problem.criteria) l.profiles.items;
}
