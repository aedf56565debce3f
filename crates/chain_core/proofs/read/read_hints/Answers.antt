use Rattle.std.proofs.Common.{◌≡◌, ℕ, ◌++◌, ◌∷◌, [], List, rules, subst, refl, inr, ◌∙◌, ap, append_assoc}
use Rattle.std.proofs.lemmas.List.{take_rest}
use Rattle.chain_core.specs.Reading.{number_in}
use Rattle.chain_core.specs.Front.{StartsWith}
use Rattle.chain_core.proofs.HintLemmas.{hints_go_on, hints_more}
use Rattle.chain_core.proofs.read.read_hints.Goals as goal

pub returns-then-word-eq0-clause-answer : goal.returns-then-word-eq0-clause-answer
returns-then-word-eq0-clause-answer c =
    let P : List ℕ → Type 0 = λ t. StartsWith number_in t c.in-Some.word.value c.in-Some.word.len in
    let starts = subst P (take_rest c.args.text.now c.loop-word.at) c.in-Some.ensures.word in
    let before = c.loop-word.invariant.so_far in
    inr (refl, hints_go_on c.args.text.now c.loop-word.at before.0 _ before.2 _ _ c.loop-word.invariant.within starts c.if-word-eq0.true c.if-end-text.false)

pub loop-word-preserved : goal.loop-word-preserved
loop-word-preserved c =
    let P : List ℕ → Type 0 = λ t. StartsWith number_in t c.in-Some.word.value c.in-Some.word.len in
    let starts = subst P (take_rest c.args.text.now c.loop-word.at) c.in-Some.ensures.word in
    let before = c.loop-word.invariant.so_far in
    let pushed : c.push.new.self.items ≡ c.loop-word.hints.items ++ c.in-Some.word.value ∷ [] = search rules in
    record {
      within = search rules;
      few = search rules;
      so_far = (
        before.0 ++ c.in-Some.word.value ∷ [],
        pushed ∙ ap (λ xs. xs ++ c.in-Some.word.value ∷ []) before.1 ∙ append_assoc c.args.hints.now.items before.0 (c.in-Some.word.value ∷ []),
        hints_more c.args.text.now c.loop-word.at before.0 _ before.2 _ _ c.loop-word.invariant.within starts c.if-word-eq0.false c.if-end-text-2.false,
      );
    }
