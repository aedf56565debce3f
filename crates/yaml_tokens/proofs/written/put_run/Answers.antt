use Rattle.lists_core.proofs.PutsFacts.{puts-then, puts-cut, puts-failed}
use Rattle.yaml_tokens.proofs.written.put_run.Goals as goal

pub returns-in_err-put_plain : goal.returns-in_err-put_plain
returns-in_err-put_plain c = puts-failed _ _ _ c.from_residual.result c.from_residual.ensures.0 (puts-cut _ _ _ _ c.in_err-put_plain.ensures)

pub returns : goal.returns
returns c = puts-then _ _ _ c.in_ok-put_plain.ensures _ _ c.put_escape.result c.put_escape.ensures
