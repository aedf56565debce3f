use Rattle.std.proofs.Common.{ℕ, sym, ap, ◌∙◌, add-one}
use Rattle.rand_pcg.specs.Lcg.{Lcg}
use Rattle.draw_core.specs.Words.{after, seeded, word}
use Rattle.draw_core.proofs.ListedFacts.{listed-push}
use Rattle.draw_core.proofs.WordFacts.{word-step}
use Rattle.draw_core.proofs.words.draw_words.Goals as goal

pub loop-init : goal.loop-init
unfolding after
loop-init c = record { words = c.new-words.ensures.items; generator = c.seeded-generator.ensures }

pub loop-preserved : goal.loop-preserved
loop-preserved c =
    let g : Lcg = seeded c.args.seed in
    let k : ℕ = c.loop.counter in
    let (value, next) = word-step g c.loop.generator c.next_word.new.self k c.next_word.result c.loop.invariant.generator c.next_word.ensures in
    record {
      words = listed-push (word g) k c.loop.words.items c.push.new.self.items c.next_word.result c.in_ok-push.ensures.items c.loop.invariant.words value;
      generator = next ∙ ap (λ n. after n g) (sym (add-one k));
    }
