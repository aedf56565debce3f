-- The words of a seed: what the generator of PCG with 32-bit words (O'Neill) gives one after the other.
use Rattle.std.specs.Prelude.{ℕ, zero, suc, ◌%◌, List, slice_index_or}
use Rattle.rand_pcg.specs.Lcg.{Lcg, started, increment_of}
use Rattle.rand_pcg.specs.Pcg.{multiplier_64, pcg32}
use Rattle.encoding_rules.specs.Each.{listed}

-- the generator that a seed starts; its stream is 1
abbrev pub seeded : ℕ → Lcg
seeded seed = started 64 multiplier_64 seed (increment_of 64 1)

-- a generator once it has given so many words
unfoldable pub after : ℕ → Lcg → Lcg
after zero g = g
after (suc n) g = (pcg32 (after n g)).1

-- the word that follows so many others
abbrev pub word : Lcg → ℕ → ℕ
word g k = (pcg32 (after k g)).0

-- the first words of a generator
abbrev pub words_of : Lcg → ℕ → List ℕ
words_of g count = listed (word g) count

-- the number below a bound that the word at a place draws
abbrev pub number_at : List ℕ → ℕ → ℕ → ℕ
number_at words place bound = slice_index_or words place 0 % bound
