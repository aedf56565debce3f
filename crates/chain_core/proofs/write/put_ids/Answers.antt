use Rattle.std.proofs.Common.{◌++◌, ◌∷◌, [], ◌≤◌}
use Rattle.std.specs.Prelude.{decimal}
use Rattle.std.proofs.lemmas.List.{get_or_default}
use Rattle.std.proofs.lemmas.List.Elements.{All-more}
use Rattle.chain_core.proofs.WriteLemmas.{more_put, cut_put}
use Rattle.chain_core.specs.declared.number.TheConstants.{MOST_ID}
use Rattle.chain_core.proofs.write.put_ids.Goals as goal

pub returns-in_err-put_id-clause-text : goal.returns-in_err-put_id-clause-text
returns-in_err-put_id-clause-text c =
    cut_put (λ x. decimal x ++ 32 ∷ []) c.args.ids.now c.loop-id.id-index _ _ _ _ c.from_residual.result c.from_residual.ensures.0 c.loop-id-test.true (get_or_default c.args.ids.now c.loop-id.id-index _ 0 c.loop-id-test.true) c.loop-id.invariant.text c.in_err-put_id.ensures.text

pub loop-id-preserved : goal.loop-id-preserved
loop-id-preserved c = record {
  text = more_put (λ x. decimal x ++ 32 ∷ []) c.args.ids.now c.loop-id.id-index _ _ _ _ c.loop-id-test.true (get_or_default c.args.ids.now c.loop-id.id-index _ 0 c.loop-id-test.true) c.loop-id.invariant.text c.in_ok-put_id.ensures.text;
  reach = All-more (λ id. id ≤ MOST_ID) c.args.ids.now c.loop-id.id-index 0 c.loop-id-test.true c.loop-id.invariant.reach c.in_ok-put_id.ensures.reach;
}
