use Rattle.std.proofs.Common.{sym, ◌++◌, ◌∷◌, [], subst}
use Rattle.std.proofs.lemmas.List.Elements.{All-more}
use Rattle.chain_core.specs.Literal.{IsPlace}
use Rattle.chain_core.specs.Text.{literal_word}
use Rattle.chain_core.proofs.WriteLemmas.{more_put, cut_put}
use Rattle.chain_core.proofs.write.put_literals.Goals as goal

pub returns-in_err-put_literal-clause-text : goal.returns-in_err-put_literal-clause-text
returns-in_err-put_literal-clause-text c =
    cut_put (λ x. literal_word x ++ 32 ∷ []) c.args.literals.now c.loop-literal.literal-index _ _ _ _ c.from_residual.result c.from_residual.ensures.0 c.loop-literal-test.true (sym c.literal-item.is) c.loop-literal.invariant.text c.in_err-put_literal.ensures.text

pub loop-literal-preserved : goal.loop-literal-preserved
loop-literal-preserved c = record {
  text = more_put (λ x. literal_word x ++ 32 ∷ []) c.args.literals.now c.loop-literal.literal-index _ _ _ _ c.loop-literal-test.true (sym c.literal-item.is) c.loop-literal.invariant.text c.in_ok-put_literal.ensures.text;
  reach = All-more IsPlace c.args.literals.now c.loop-literal.literal-index c.literal-item.result c.loop-literal-test.true c.loop-literal.invariant.reach (subst IsPlace c.literal-item.is c.in_ok-put_literal.ensures.reach);
}
