use Rattle.std.proofs.Common.{◌≡◌, map, take}
use Rattle.std.specs.Prelude.{Some}
use Rattle.std.specs.List.{All}
use Rattle.model_core.specs.Model.{IsThreshold}
use Rattle.draw_core.specs.Choice.{chosen}
use Rattle.draw_core.proofs.model.thresholds_of.Given as goal

abbrev pub invariant-loop-choice : goal.invariant-loop-choice
invariant-loop-choice l = record { thresholds : l.row ≡ map (λ c. Some (chosen l.scale c)) (take l.choice-index l.choices); grades : All (IsThreshold l.scale) l.row }
