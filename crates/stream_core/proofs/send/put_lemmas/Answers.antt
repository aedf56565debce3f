use Rattle.std.proofs.Common.{subst, arith}
use Rattle.std.specs.List.{All}
use Rattle.std.proofs.lemmas.List.{take_all}
use Rattle.std.proofs.lemmas.Option.{slice_get_within, get_or_from_slice_get}
use Rattle.chain_core.specs.Text.{line_of, lemma_words}
use Rattle.chain_core.specs.Lemma.{IsNumbered, IsWritable}
use Rattle.chain_core.proofs.WriteLemmas.{All-slice_get, writable_more}
use Rattle.stream_core.proofs.Steps.{item_put, item_cut, stays, all_put}
use Rattle.stream_core.proofs.send.put_lemmas.Goals as goal

pub loop-k-init : goal.loop-k-init
loop-k-init g c = record {
  streams = stays _ _ _;
  writable = λ k d lt. absurd (omega arith);
}

pub returns-in_err-put_lemma-clause-streams : goal.returns-in_err-put_lemma-clause-streams
returns-in_err-put_lemma-clause-streams g c =
    item_cut (λ x. line_of (lemma_words x)) c.args.log.now c.loop-k.k c.lemma.result.now c.from_residual.result c.from_residual.ensures.0
    (slice_get_within c.args.log.now c.loop-k.k c.lemma.result.now c.lemma.ensures)
    (get_or_from_slice_get c.args.log.now c.loop-k.k c.lemma.result.now c.lemma.result.now c.lemma.ensures) c.loop-k.invariant.streams c.in_err-put_lemma.ensures.streams

pub loop-k-preserved : goal.loop-k-preserved
loop-k-preserved g c = record {
  streams =
      item_put (λ x. line_of (lemma_words x)) c.args.log.now c.loop-k.k c.lemma.result.now
      (slice_get_within c.args.log.now c.loop-k.k c.lemma.result.now c.lemma.ensures)
      (get_or_from_slice_get c.args.log.now c.loop-k.k c.lemma.result.now c.lemma.result.now c.lemma.ensures) c.loop-k.invariant.streams c.in_ok-put_lemma.ensures.streams;
  writable = writable_more c.args.log.now c.loop-k.k c.lemma.result.now c.lemma.ensures c.loop-k.invariant.writable c.in_ok-put_lemma.ensures.writable;
}

pub returns-clause-streams : goal.returns-clause-streams
returns-clause-streams g c = all_put (λ x. line_of (lemma_words x)) c.args.log.now c.loop-k.k _ (omega (arith, c.count-k-end.ensures.value, c.loop-k-test.false)) c.loop-k.invariant.streams

pub returns-clause-writable : goal.returns-clause-writable
returns-clause-writable g c =
    subst (All IsWritable) (take_all c.loop-k.k c.args.log.now (omega (arith, c.count-k-end.ensures.value, c.loop-k-test.false))) c.loop-k.invariant.writable

pub put_lemma-requires : goal.put_lemma-requires
put_lemma-requires g c = All-slice_get IsNumbered c.args.log.now c.loop-k.k c.lemma.result.now c.count-k-end.ensures.numbered c.lemma.ensures
