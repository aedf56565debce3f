use Rattle.lincs_top.proofs.SayLemmas.{sends_on, sends_failed}
use Rattle.lincs_top.proofs.line.say_about.Goals as goal

pub returns-in-Ok : goal.returns-in-Ok
returns-in-Ok g c = sends_on c.in-Ok.ensures c.say-in-Ok.ensures

pub returns-in-Err : goal.returns-in-Err
returns-in-Err g c = sends_failed _ c.in-Err.ensures
