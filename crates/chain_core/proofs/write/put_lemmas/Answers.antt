use Rattle.std.proofs.lemmas.Option.{slice_get_within, get_or_from_slice_get}
use Rattle.chain_core.specs.Lemma.{IsNumbered}
use Rattle.chain_core.specs.Text.{line_of, lemma_words}
use Rattle.chain_core.proofs.WriteLemmas.{more_put, cut_put, writable_more, All-slice_get}
use Rattle.chain_core.proofs.write.put_lemmas.Goals as goal

pub returns-in_err-put_lemma-clause-text : goal.returns-in_err-put_lemma-clause-text
returns-in_err-put_lemma-clause-text c =
    cut_put (λ x. line_of (lemma_words x)) c.args.log.now c.loop-k.k c.lemma.result.now _ _ _ c.from_residual.result c.from_residual.ensures.0 (slice_get_within c.args.log.now c.loop-k.k c.lemma.result.now c.lemma.ensures) (get_or_from_slice_get c.args.log.now c.loop-k.k c.lemma.result.now c.lemma.result.now c.lemma.ensures) c.loop-k.invariant.text c.in_err-put_lemma.ensures.text

pub loop-k-preserved : goal.loop-k-preserved
loop-k-preserved c = record {
  text = more_put (λ x. line_of (lemma_words x)) c.args.log.now c.loop-k.k c.lemma.result.now _ _ _ (slice_get_within c.args.log.now c.loop-k.k c.lemma.result.now c.lemma.ensures) (get_or_from_slice_get c.args.log.now c.loop-k.k c.lemma.result.now c.lemma.result.now c.lemma.ensures) c.loop-k.invariant.text c.in_ok-put_lemma.ensures.text;
  writable = writable_more c.args.log.now c.loop-k.k c.lemma.result.now c.lemma.ensures c.loop-k.invariant.writable c.in_ok-put_lemma.ensures.writable;
}

pub put_lemma-requires : goal.put_lemma-requires
put_lemma-requires c = All-slice_get IsNumbered c.args.log.now c.loop-k.k c.lemma.result.now c.count-k-end.ensures.numbered c.lemma.ensures
