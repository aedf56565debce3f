use Rattle.std.proofs.Common.{subst}
use Rattle.edge_core.specs.Outside.{Sends}
use Rattle.chain_core.specs.Text.{log_text}
use Rattle.lincs_top.specs.Learned.{IsAnswer}
use Rattle.lincs_top.proofs.Learning.{tells_model, tells_refutation, tells_limit}
use Rattle.lincs_top.proofs.learn.write_answer.Goals as goal

pub returns-in-Found : goal.returns-in-Found
returns-in-Found g c = λ examples p is.
    let both = subst (IsAnswer c.args.problem.now examples c.args.how c.args.most) c.in-Found.is is in
    tells_model c.in-Found.model p both.0 both.1 c.write_found.ensures

pub returns-in-Refuted : goal.returns-in-Refuted
returns-in-Refuted g c = λ examples p is.
    let both = subst (IsAnswer c.args.problem.now examples c.args.how c.args.most) c.in-Refuted.is is in
    tells_refutation c.in-Refuted.accepted both.0 both.1
    (c.concluded.ensures _ _ _ (subst (λ log. Sends (g.O.Sink.state c.args.out.now) (g.O.Sink.state c.send_log.new.sink) (log_text c.args.how log) c.send_log.result) c.log.ensures c.send_log.ensures.sends))

pub returns-in-Limit : goal.returns-in-Limit
returns-in-Limit g c = λ examples p is.
    tells_limit c.in-Limit.log (subst (IsAnswer c.args.problem.now examples c.args.how c.args.most) c.in-Limit.is is) (c.concluded-in-Limit.ensures _ _ _ c.send_log-in-Limit.ensures.sends)
