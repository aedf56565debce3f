use Rattle.lists_core.proofs.PutsFacts.{puts-then}
use Rattle.written_core.proofs.PutLemmas.{first-cut}
use Rattle.model_text_core.proofs.places.put_place.Goals as goal

pub returns-in_err-put_comma : goal.returns-in_err-put_comma
returns-in_err-put_comma c = first-cut _ _ _ _ c.from_residual.result c.from_residual.ensures.0 c.in_err-put_comma.ensures

pub returns : goal.returns
returns c = puts-then _ _ _ c.in_ok-put_comma.ensures _ _ c.put_number.result c.put_number.ensures
