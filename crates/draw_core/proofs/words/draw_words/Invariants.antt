use Rattle.std.proofs.Common.{◌≡◌}
use Rattle.draw_core.specs.Words.{after, seeded, words_of}
use Rattle.draw_core.proofs.words.draw_words.Given as goal

abbrev pub invariant-loop : goal.invariant-loop
invariant-loop l = record { words : l.words.items ≡ words_of (seeded l.seed) l.counter; generator : l.generator ≡ after l.counter (seeded l.seed) }
