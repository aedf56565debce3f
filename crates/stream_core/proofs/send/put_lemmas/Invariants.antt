use Rattle.std.proofs.Common.{take}
use Rattle.std.specs.List.{All, flat_map}
use Rattle.chain_core.specs.Text.{line_of, lemma_words}
use Rattle.chain_core.specs.Lemma.{IsWritable}
use Rattle.stream_core.proofs.Steps.{Along}
use Rattle.stream_core.proofs.send.put_lemmas.Given as goal

-- what was put so far
abbrev pub invariant-loop-k : goal.invariant-loop-k
invariant-loop-k g l = record {
  streams : Along (g.O.Sink.state l.initial.sink) (g.O.Sink.state l.sink) l.initial.piece l.piece (flat_map (λ x. line_of (lemma_words x)) (take l.k l.log));
  writable : All IsWritable (take l.k l.log);
}
