use Rattle.std.proofs.Common.{◌+◌, ◌<◌, ap, sym, ◌∙◌, length, drop, inr, arith}
use Rattle.std.proofs.lemmas.List.{length_push}
use Rattle.model_core.specs.ReadCoalitions.{weights_of}
use Rattle.model_core.proofs.RootLemmas.{weights_of-more, weights_of-fault, weights_of-end}
use Rattle.model_core.proofs.read_coalitions.read_weights.Goals as goal

pub returns-in_default : goal.returns-in_default
returns-in_default c =
    let within : c.loop-item.item-index < length c.args.items.now = omega arith in
    inr (sym c.loop-item.invariant.read
    ∙ weights_of-fault c.args.fault c.loop-item.weights c.args.items.now c.loop-item.item-index c.item-item.result within c.item-item.is (sym c.in_default.ensures))

pub loop-item-preserved : goal.loop-item-preserved
loop-item-preserved c =
    let within : c.loop-item.item-index < length c.args.items.now = omega arith in
    record {
      count = omega (arith, ap length c.in_ok-push.ensures.ok, length_push c.loop-item.weights c.in-Some.weight, c.loop-item.invariant.count);
      read =
          ap (λ xs. weights_of c.args.fault xs (drop (c.loop-item.item-index + 1) c.args.items.now)) c.in_ok-push.ensures.ok
          ∙ sym (weights_of-more c.args.fault c.loop-item.weights c.args.items.now c.loop-item.item-index c.item-item.result c.in-Some.weight within c.item-item.is (sym c.in-Some.ensures))
          ∙ c.loop-item.invariant.read;
    }

pub returns : goal.returns
returns c = sym c.loop-item.invariant.read ∙ weights_of-end c.args.fault c.loop-item.weights c.args.items.now c.loop-item.item-index (omega arith)
