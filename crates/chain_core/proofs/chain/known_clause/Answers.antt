use Rattle.std.proofs.Common.{refl}
use Rattle.chain_core.proofs.KnownLemmas.{known_lemma}
use Rattle.chain_core.proofs.chain.known_clause.Goals as goal

pub returns-else-id-count : goal.returns-else-id-count
returns-else-id-count c = λ k short within. known_lemma c.args.formula.now c.args.log.now k _ c.args.id c.count-count.result c.lemma-lemma.result.now _ c.count-count.ensures.value c.if-id-count.false within short refl c.lemma-lemma.ensures c.as_slice.ensures.items
