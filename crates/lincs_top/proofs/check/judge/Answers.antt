use Rattle.std.proofs.Common.{ap, ◌∙◌}
use Rattle.lincs_top.specs.declared.stop.Verdict.TheVariants.{Done}
use Rattle.lincs_top.proofs.Judging.{judged_stop, moved}
use Rattle.lincs_top.proofs.check.judge.Goals.{in-Ok, in-Err}
use Rattle.lincs_top.proofs.check.judge.Goals as goal

pub returns : goal.returns
returns g c = elim c.match-check.branch [
  | in-Ok w ↦ moved (record { verdict = Done; judged = w.in-Ok.ensures.answer.1; concludes = w.write_out.ensures }) (ap g.O.Sink.state w.out-is) w.result-is
  | in-Err w ↦ moved (judged_stop _ w.in-Err.fault w.in-Err.ensures.answer w.in-Err.ensures.exact w.in-Err.ensures.cause) (ap g.O.Sink.state w.out-is) (w.result-is ∙ w.rejection.ensures)
]
