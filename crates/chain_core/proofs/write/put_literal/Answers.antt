use Rattle.std.proofs.Common.{refl, arith}
use Rattle.lists_core.proofs.PutsFacts.{puts-then}
use Rattle.chain_core.proofs.WriteLemmas.{puts-as, literal_by, failed_first, OnOk-known}
use Rattle.chain_core.proofs.write.put_literal.Goals as goal

pub returns-in_err-put_sign-clause-text : goal.returns-in_err-put_sign-clause-text
returns-in_err-put_sign-clause-text c =
    puts-as _ _ _ _ _ (literal_by c.args.literal _ refl) (failed_first _ _ _ _ c.from_residual.result c.from_residual.ensures.0 c.in_err-put_sign.ensures)

pub returns-clause-text : goal.returns-clause-text
returns-clause-text c = puts-as _ _ _ _ _ (literal_by c.args.literal c.variable.result c.variable.ensures.value) (puts-then _ _ _ c.in_ok-put_sign.ensures _ _ _ c.put_id.ensures.text)

pub returns-clause-reach : goal.returns-clause-reach
returns-clause-reach c =
    let v = c.variable.ensures in
    OnOk-known c.put_id.result (omega (arith, v.value, v.least), omega (arith, v.value, v.most))
