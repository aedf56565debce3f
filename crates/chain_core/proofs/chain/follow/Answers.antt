use Rattle.std.proofs.Common.{◌≡◌, ℕ, ◌<◌, ◌∷◌, sym, ◌∙◌, subst, ◌≤◌, arith, length}
use Rattle.std.proofs.lemmas.List.Elements.{All-contains, All-set}
use Rattle.literals_core.specs.Literal.{negation}
use Rattle.chain_core.specs.Log.{known_before}
use Rattle.chain_core.proofs.FollowLemmas.{chain_turn, marked_at, clause_range}
use Rattle.chain_core.proofs.chain.follow.Goals as goal

pub returns-in-AllFalse-clause-answer : goal.returns-in-AllFalse-clause-answer
returns-in-AllFalse-clause-answer c = λ set marked.
    let was = c.loop-hint.invariant.marked set marked in
    let near = c.requires.hints c.loop-hint.hint-index 0 c.loop-hint-test.true in
    let is = c.known_clause-clause.ensures c.args.k c.requires.earlier near.1 in
    let range = clause_range (known_before c.args.formula.now c.args.log.now c.args.k) _ _ _ c.known_clause-clause.result.now c.requires.range is (sym c.loop-hint.auto.stamps) in
    sym (sym was.2 ∙ chain_turn _ was.0 c.loop-hint.stamps c.args.hints.now c.known_clause-clause.result.now c.args.stamp c.loop-hint.hint-index _ c.loop-hint-test.true is (λ k d h. (range k d h).0) was.1 c.in-AllFalse.ensures.answer)

pub bounds-stamps-place : goal.bounds-stamps-place
bounds-stamps-place c =
    let near = c.requires.hints c.loop-hint.hint-index 0 c.loop-hint-test.true in
    let is = c.known_clause-clause.ensures c.args.k c.requires.earlier near.1 in
    let range = clause_range (known_before c.args.formula.now c.args.log.now c.args.k) _ _ _ c.known_clause-clause.result.now c.requires.range is (sym c.loop-hint.auto.stamps) in
    let here = All-contains (λ l. (l < length c.loop-hint.stamps) × (negation l < length c.loop-hint.stamps)) c.known_clause-clause.result.now c.in-One.literal range c.in-One.ensures.among in
    let P : ℕ → Type 0 = λ n. n < length c.loop-hint.stamps in
    subst P (sym (c.place.ensures ∙ c.negated.ensures)) here.1

pub returns-in-Several-clause-answer : goal.returns-in-Several-clause-answer
returns-in-Several-clause-answer c = λ set marked.
    let was = c.loop-hint.invariant.marked set marked in
    let near = c.requires.hints c.loop-hint.hint-index 0 c.loop-hint-test.true in
    let is = c.known_clause-clause.ensures c.args.k c.requires.earlier near.1 in
    let range = clause_range (known_before c.args.formula.now c.args.log.now c.args.k) _ _ _ c.known_clause-clause.result.now c.requires.range is (sym c.loop-hint.auto.stamps) in
    sym (sym was.2 ∙ chain_turn _ was.0 c.loop-hint.stamps c.args.hints.now c.known_clause-clause.result.now c.args.stamp c.loop-hint.hint-index _ c.loop-hint-test.true is (λ k d h. (range k d h).0) was.1 c.in-Several.ensures.answer)

pub loop-hint-preserved : goal.loop-hint-preserved
loop-hint-preserved c =
    let near = c.requires.hints c.loop-hint.hint-index 0 c.loop-hint-test.true in
    let is = c.known_clause-clause.ensures c.args.k c.requires.earlier near.1 in
    let range = clause_range (known_before c.args.formula.now c.args.log.now c.args.k) _ _ _ c.known_clause-clause.result.now c.requires.range is (sym c.loop-hint.auto.stamps) in
    let here = All-contains (λ l. (l < length c.loop-hint.stamps) × (negation l < length c.loop-hint.stamps)) c.known_clause-clause.result.now c.in-One.literal range c.in-One.ensures.among in
    let at : c.place.result ≡ negation c.in-One.literal = c.place.ensures ∙ c.negated.ensures in
    record {
      marked = λ set marked.
          let was = c.loop-hint.invariant.marked set marked in
          let turn = chain_turn _ was.0 c.loop-hint.stamps c.args.hints.now c.known_clause-clause.result.now c.args.stamp c.loop-hint.hint-index _ c.loop-hint-test.true is (λ k d h. (range k d h).0) was.1 c.in-One.ensures.answer in
          (c.in-One.literal ∷ was.0, marked_at c.loop-hint.stamps was.0 c.args.stamp c.in-One.literal c.place.result at here.1 was.1, sym turn ∙ was.2);
      bound = All-set (λ s. s ≤ c.args.stamp) c.loop-hint.stamps c.place.result c.args.stamp (omega arith) c.loop-hint.invariant.bound;
    }

pub open_literals_of-requires : goal.open_literals_of-requires
open_literals_of-requires c =
    let near = c.requires.hints c.loop-hint.hint-index 0 c.loop-hint-test.true in
    let is = c.known_clause-clause.ensures c.args.k c.requires.earlier near.1 in
    let range = clause_range (known_before c.args.formula.now c.args.log.now c.args.k) _ _ _ c.known_clause-clause.result.now c.requires.range is (sym c.loop-hint.auto.stamps) in
    λ k d h. (range k d h).0
