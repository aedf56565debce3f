use Rattle.fixed_core.proofs.CanonicalFacts.{canonical_spelling}
use Rattle.fixed_core.proofs.laws.canonical_text_is_the_spelling.Goals as goal

pub returns : goal.returns
returns c = λ z canonical reads. canonical_spelling c.args.text.now canonical z reads
