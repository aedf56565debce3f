use Rattle.std.proofs.Common.{◌++◌, ◌∙◌, ap, arith, drop}
use Rattle.chain_core.specs.Reading.{words_of}
use Rattle.chain_core.proofs.HintLemmas.{list_positive}
use Rattle.chain_core.proofs.read.read_lemma.Goals as goal

pub returns-clause-numbered : goal.returns-clause-numbered
returns-clause-numbered c =
    let read = c.in_ok-read_hints.ensures.answer in
    let some = c.if-id-eq0.false in
    record {
      id = omega (arith, some);
      hints = list_positive _ _ read.0 (words_of (drop c.in_ok-next.next c.args.text.now)) (c.in_ok-exact_list-2.ensures ∙ c.as_slice-2.ensures.value) (read.1 ∙ ap (λ xs. xs ++ read.0) c.clear-2.ensures.items) read.2;
    }
