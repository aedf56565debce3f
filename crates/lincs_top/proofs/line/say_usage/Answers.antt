use Rattle.std.proofs.Common.{subst}
use Rattle.edge_core.specs.Outside.{Sends}
use Rattle.lincs_top.specs.Line.{usage_text}
use Rattle.lincs_top.proofs.line.say_usage.Goals as goal

pub returns : goal.returns
returns g c =
    subst (λ n. Sends (g.E.Sink.state c.args.err.now) (g.E.Sink.state c.say.new.err) (usage_text n) c.say.result) c.line_number-code.ensures c.say.ensures
