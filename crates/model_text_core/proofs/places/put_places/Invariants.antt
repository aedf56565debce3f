use Rattle.std.proofs.Common.{◌-◌, ◌≤◌}
use Rattle.written_core.proofs.PutLemmas.{IsPut}
use Rattle.written_core.specs.Parts.{left_text}
use Rattle.model_text_core.specs.ModelText.{root_scalars}
use Rattle.model_text_core.proofs.PlaceTexts.{places_left}
use Rattle.model_text_core.proofs.places.put_places.Given as goal

-- the places before one were appended, as far as they are in the set
abbrev pub invariant-loop-place : goal.invariant-loop-place
invariant-loop-place l = record {
  put : IsPut l.initial.out.items l.out.items (left_text 0 (root_scalars l.count l.set)) (places_left l.written (l.count - l.place) l.place l.rest);
  few : l.written ≤ l.place;
}
