use Rattle.std.proofs.Common.{◌<◌, length, sym, ◌∙◌, arith}
use Rattle.model_text_core.proofs.SameLists.{same-more, other-lengths}
use Rattle.model_text_core.proofs.same.same_weights.Goals as goal

pub returns-then-vs-ws : goal.returns-then-vs-ws
returns-then-vs-ws c = sym (other-lengths c.args.vs.now c.args.ws.now c.if-vs-ws.true)

pub loop-i-preserved : goal.loop-i-preserved
loop-i-preserved c =
    let within : c.loop-i.i < length c.args.ws.now = omega arith in
    sym (same-more c.args.vs.now c.args.ws.now c.loop-i.i _ _ c.loop-i-test.true c.index-vs-i.is within c.index-ws-i.is (sym c.same_number.ensures ∙ c.if-not-same_number.false)) ∙ c.loop-i.invariant
