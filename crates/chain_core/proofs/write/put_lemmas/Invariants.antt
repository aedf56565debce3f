use Rattle.std.proofs.Common.{◌≡◌, ◌++◌, take}
use Rattle.std.specs.List.{All, flat_map}
use Rattle.chain_core.specs.Lemma.{IsWritable}
use Rattle.chain_core.specs.Text.{line_of, lemma_words}
use Rattle.chain_core.proofs.write.put_lemmas.Given as goal

-- what was put so far
abbrev pub invariant-loop-k : goal.invariant-loop-k
invariant-loop-k l = record {
  text : l.out.items ≡ l.initial.out.items ++ flat_map (λ x. line_of (lemma_words x)) (take l.k l.log);
  writable : All IsWritable (take l.k l.log);
}
