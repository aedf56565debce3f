use Rattle.std.proofs.Common.{subst, arith, [], ◌∷◌, ◌++◌, sym}
use Rattle.chain_core.specs.Text.{literal_word}
use Rattle.std.proofs.lemmas.List.Elements.{All-more}
use Rattle.chain_core.specs.Literal.{IsPlace}
use Rattle.stream_core.proofs.Steps.{item_put, item_cut, stays, all_put}
use Rattle.stream_core.proofs.send.put_literals.Goals as goal

pub loop-literal-init : goal.loop-literal-init
loop-literal-init g c = record {
  streams = stays _ _ _;
  reach = λ k d lt. absurd (omega arith);
}

pub returns-in_err-put_literal-clause-streams : goal.returns-in_err-put_literal-clause-streams
returns-in_err-put_literal-clause-streams g c =
    item_cut (λ x. literal_word x ++ 32 ∷ []) c.args.literals.now c.loop-literal.literal-index _ c.from_residual.result c.from_residual.ensures.0 c.loop-literal-test.true
    (sym c.literal-item.is) c.loop-literal.invariant.streams c.in_err-put_literal.ensures.streams

pub loop-literal-preserved : goal.loop-literal-preserved
loop-literal-preserved g c = record {
  streams =
      item_put (λ x. literal_word x ++ 32 ∷ []) c.args.literals.now c.loop-literal.literal-index _ c.loop-literal-test.true
      (sym c.literal-item.is) c.loop-literal.invariant.streams c.in_ok-put_literal.ensures.streams;
  reach = All-more IsPlace c.args.literals.now c.loop-literal.literal-index c.literal-item.result c.loop-literal-test.true c.loop-literal.invariant.reach (subst IsPlace c.literal-item.is c.in_ok-put_literal.ensures.reach);
}

pub returns-clause-streams : goal.returns-clause-streams
returns-clause-streams g c = all_put (λ x. literal_word x ++ 32 ∷ []) c.args.literals.now c.loop-literal.literal-index _ c.loop-literal-test.false c.loop-literal.invariant.streams
