use Rattle.std.proofs.Common.{subst, Err}
use Rattle.edge_core.specs.Outside.{Sends}
use Rattle.lincs_top.proofs.SayLemmas.{sends_on, sends_failed, first_said}
use Rattle.lincs_top.proofs.line.+say.Goals as goal

pub returns-in-Ok : goal.returns-in-Ok
returns-in-Ok g t c = subst (λ text. Sends (g.E.Sink.state c.args.err.now) (g.E.Sink.state c.say.new.err) text c.say.result) (first_said c.args.parts.now _ c.in-len1-up.len_at_least)
    (sends_on c.in-Ok.ensures c.say.ensures)

pub returns-in-Err : goal.returns-in-Err
returns-in-Err g t c = subst (λ text. Sends {T = Unit {0}} (g.E.Sink.state c.args.err.now) (g.E.Sink.state c.say_part.new.err) text (Err c.in-Err.failed)) (first_said c.args.parts.now _ c.in-len1-up.len_at_least)
    (sends_failed _ c.in-Err.ensures)
