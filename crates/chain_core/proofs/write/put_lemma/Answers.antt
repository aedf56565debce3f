use Rattle.std.proofs.Common.{refl}
use Rattle.chain_core.proofs.WriteLemmas.{OnOk-known, writable_by, puts-as, lemma_line_by, failed_first, failed_second, failed_third, failed_fourth, five_put}
use Rattle.chain_core.proofs.write.put_lemma.Goals as goal

pub returns-in_err-put_id-clause-text : goal.returns-in_err-put_id-clause-text
returns-in_err-put_id-clause-text c =
    puts-as _ _ _ _ _ (lemma_line_by c.args.lemma.now _ _ refl refl) (failed_first _ _ _ _ c.from_residual.result c.from_residual.ensures.0 c.in_err-put_id.ensures.text)

pub returns-in_err-put_literals-clause-text : goal.returns-in_err-put_literals-clause-text
returns-in_err-put_literals-clause-text c =
    puts-as _ _ _ _ _ (lemma_line_by c.args.lemma.now c.as_slice.result.now _ c.as_slice.ensures.items refl)
    (failed_second _ _ _ _ _ _ c.from_residual-in_err-put_literals.result c.in_ok-put_id.ensures.text c.from_residual-in_err-put_literals.ensures.0 c.in_err-put_literals.ensures.text)

pub returns-in_err-put_text-clause-text : goal.returns-in_err-put_text-clause-text
returns-in_err-put_text-clause-text c =
    puts-as _ _ _ _ _ (lemma_line_by c.args.lemma.now c.as_slice.result.now _ c.as_slice.ensures.items refl)
    (failed_third _ _ _ _ _ _ _ _ c.from_residual-in_err-put_text.result c.in_ok-put_id.ensures.text c.in_ok-put_literals.ensures.text c.from_residual-in_err-put_text.ensures.0 c.in_err-put_text.ensures)

pub returns-in_err-put_ids-clause-text : goal.returns-in_err-put_ids-clause-text
returns-in_err-put_ids-clause-text c =
    puts-as _ _ _ _ _ (lemma_line_by c.args.lemma.now c.as_slice.result.now c.as_slice-2.result.now c.as_slice.ensures.items c.as_slice-2.ensures.items)
    (failed_fourth _ _ _ _ _ _ _ _ _ _ c.from_residual-in_err-put_ids.result c.in_ok-put_id.ensures.text c.in_ok-put_literals.ensures.text c.in_ok-put_text.ensures c.from_residual-in_err-put_ids.ensures.0 c.in_err-put_ids.ensures.text)

pub returns-clause-text : goal.returns-clause-text
returns-clause-text c =
    puts-as _ _ _ _ _ (lemma_line_by c.args.lemma.now c.as_slice.result.now c.as_slice-2.result.now c.as_slice.ensures.items c.as_slice-2.ensures.items)
    (five_put _ _ _ _ _ _ _ _ _ _ _ _ c.in_ok-put_id.ensures.text c.in_ok-put_literals.ensures.text c.in_ok-put_text.ensures c.in_ok-put_ids.ensures.text c.put_text-2.ensures)

pub returns-clause-writable : goal.returns-clause-writable
returns-clause-writable c =
    OnOk-known c.put_text-2.result (writable_by c.args.lemma.now c.as_slice.result.now c.as_slice-2.result.now c.requires c.as_slice.ensures.items c.as_slice-2.ensures.items c.in_ok-put_id.ensures.reach c.in_ok-put_literals.ensures.reach c.in_ok-put_ids.ensures.reach)
