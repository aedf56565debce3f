use Rattle.std.proofs.Common.{sym, ap, ◌++◌}
use Rattle.std.specs.List.{flat_map}
use Rattle.chain_core.specs.Text.{line_of, lemma_words}
use Rattle.chain_core.proofs.ReadsBackLemmas.{text_reads}
use Rattle.chain_core.proofs.WriteLemmas.{OnOk-known}
use Rattle.stream_core.proofs.Steps.{sent_all, cut_off, in_turn, cut, cut_last, same_text}
use Rattle.stream_core.proofs.send.send_log.Goals as goal

pub returns-in_err-put_text-clause-sends : goal.returns-in_err-put_text-clause-sends
returns-in_err-put_text-clause-sends g c =
    cut_off c.from_residual.result c.from_residual.ensures.0 c.new-piece.ensures
    (same_text (ap (λ t. t ++ flat_map (λ lemma. line_of (lemma_words lemma)) c.args.log.now) (sym c.header_of.ensures.text))
    (cut _ c.from_residual.result c.from_residual.ensures.0 c.in_err-put_text.ensures))

pub returns-in_err-put_lemmas-clause-sends : goal.returns-in_err-put_lemmas-clause-sends
returns-in_err-put_lemmas-clause-sends g c =
    cut_off c.from_residual-in_err-put_lemmas.result c.from_residual-in_err-put_lemmas.ensures.0 c.new-piece.ensures
    (same_text (ap (λ t. t ++ flat_map (λ lemma. line_of (lemma_words lemma)) c.args.log.now) (sym c.header_of.ensures.text))
    (in_turn c.in_ok-put_text.ensures (cut_last c.from_residual-in_err-put_lemmas.result c.from_residual-in_err-put_lemmas.ensures.0 c.in_err-put_lemmas.ensures.streams)))

pub returns-clause-sends : goal.returns-clause-sends
returns-clause-sends g c =
    sent_all c.send.result c.new-piece.ensures
    (same_text (ap (λ t. t ++ flat_map (λ lemma. line_of (lemma_words lemma)) c.args.log.now) (sym c.header_of.ensures.text))
    (in_turn c.in_ok-put_text.ensures c.in_ok-put_lemmas.ensures.streams)) c.send.ensures.sends

pub returns-clause-reads_back : goal.returns-clause-reads_back
returns-clause-reads_back g c = OnOk-known c.send.result (text_reads c.args.encoding c.args.log.now c.in_ok-put_lemmas.ensures.writable)
