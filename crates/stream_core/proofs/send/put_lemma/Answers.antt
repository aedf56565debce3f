use Rattle.std.proofs.Common.{refl}
use Rattle.chain_core.proofs.WriteLemmas.{OnOk-known, writable_by, lemma_line_by}
use Rattle.stream_core.proofs.Steps.{same_text, in_turn, cut}
use Rattle.stream_core.proofs.send.put_lemma.Goals as goal

pub returns-in_err-put_id-clause-streams : goal.returns-in_err-put_id-clause-streams
returns-in_err-put_id-clause-streams g c =
    same_text (lemma_line_by c.args.lemma.now _ _ refl refl) (cut _ c.from_residual.result c.from_residual.ensures.0 c.in_err-put_id.ensures.streams)

pub returns-in_err-put_literals-clause-streams : goal.returns-in_err-put_literals-clause-streams
returns-in_err-put_literals-clause-streams g c =
    same_text (lemma_line_by c.args.lemma.now c.as_slice.result.now _ c.as_slice.ensures.items refl)
    (in_turn c.in_ok-put_id.ensures.streams (cut _ c.from_residual-in_err-put_literals.result c.from_residual-in_err-put_literals.ensures.0 c.in_err-put_literals.ensures.streams))

pub returns-in_err-put_text-clause-streams : goal.returns-in_err-put_text-clause-streams
returns-in_err-put_text-clause-streams g c =
    same_text (lemma_line_by c.args.lemma.now c.as_slice.result.now _ c.as_slice.ensures.items refl)
    (in_turn c.in_ok-put_id.ensures.streams (in_turn c.in_ok-put_literals.ensures.streams
    (cut _ c.from_residual-in_err-put_text.result c.from_residual-in_err-put_text.ensures.0 c.in_err-put_text.ensures)))

pub returns-in_err-put_ids-clause-streams : goal.returns-in_err-put_ids-clause-streams
returns-in_err-put_ids-clause-streams g c =
    same_text (lemma_line_by c.args.lemma.now c.as_slice.result.now c.as_slice-2.result.now c.as_slice.ensures.items c.as_slice-2.ensures.items)
    (in_turn c.in_ok-put_id.ensures.streams (in_turn c.in_ok-put_literals.ensures.streams (in_turn c.in_ok-put_text.ensures
    (cut _ c.from_residual-in_err-put_ids.result c.from_residual-in_err-put_ids.ensures.0 c.in_err-put_ids.ensures.streams))))

pub returns-clause-streams : goal.returns-clause-streams
returns-clause-streams g c =
    same_text (lemma_line_by c.args.lemma.now c.as_slice.result.now c.as_slice-2.result.now c.as_slice.ensures.items c.as_slice-2.ensures.items)
    (in_turn c.in_ok-put_id.ensures.streams (in_turn c.in_ok-put_literals.ensures.streams (in_turn c.in_ok-put_text.ensures
    (in_turn c.in_ok-put_ids.ensures.streams c.put_text-2.ensures))))

pub returns-clause-writable : goal.returns-clause-writable
returns-clause-writable g c =
    OnOk-known c.put_text-2.result (writable_by c.args.lemma.now c.as_slice.result.now c.as_slice-2.result.now c.requires c.as_slice.ensures.items c.as_slice-2.ensures.items c.in_ok-put_id.ensures.reach c.in_ok-put_literals.ensures.reach c.in_ok-put_ids.ensures.reach)
