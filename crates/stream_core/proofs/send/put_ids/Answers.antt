use Rattle.std.proofs.Common.{◌≤◌, arith, [], ◌∷◌, ◌++◌}
use Rattle.std.specs.Prelude.{decimal}
use Rattle.std.proofs.lemmas.List.{get_or_default}
use Rattle.std.proofs.lemmas.List.Elements.{All-more}
use Rattle.chain_core.specs.declared.number.TheConstants.{MOST_ID}
use Rattle.stream_core.proofs.Steps.{item_put, item_cut, stays, all_put}
use Rattle.stream_core.proofs.send.put_ids.Goals as goal

pub loop-id-init : goal.loop-id-init
loop-id-init g c = record {
  streams = stays _ _ _;
  reach = λ k d lt. absurd (omega arith);
}

pub returns-in_err-put_id-clause-streams : goal.returns-in_err-put_id-clause-streams
returns-in_err-put_id-clause-streams g c =
    item_cut (λ x. decimal x ++ 32 ∷ []) c.args.ids.now c.loop-id.id-index _ c.from_residual.result c.from_residual.ensures.0 c.loop-id-test.true
    (get_or_default c.args.ids.now c.loop-id.id-index _ 0 c.loop-id-test.true) c.loop-id.invariant.streams c.in_err-put_id.ensures.streams

pub loop-id-preserved : goal.loop-id-preserved
loop-id-preserved g c = record {
  streams =
      item_put (λ x. decimal x ++ 32 ∷ []) c.args.ids.now c.loop-id.id-index _ c.loop-id-test.true
      (get_or_default c.args.ids.now c.loop-id.id-index _ 0 c.loop-id-test.true) c.loop-id.invariant.streams c.in_ok-put_id.ensures.streams;
  reach = All-more (λ id. id ≤ MOST_ID) c.args.ids.now c.loop-id.id-index 0 c.loop-id-test.true c.loop-id.invariant.reach c.in_ok-put_id.ensures.reach;
}

pub returns-clause-streams : goal.returns-clause-streams
returns-clause-streams g c = all_put (λ x. decimal x ++ 32 ∷ []) c.args.ids.now c.loop-id.id-index _ c.loop-id-test.false c.loop-id.invariant.streams
