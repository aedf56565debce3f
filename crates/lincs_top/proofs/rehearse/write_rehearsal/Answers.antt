use Rattle.std.proofs.Common.{subst, sym}
use Rattle.rehearsal_core.specs.Outcome.{IfLearned, IfLimit}
use Rattle.rehearsal_core.specs.Rehearsed.{IsSummary}
use Rattle.lincs_top.proofs.Rehearsing.{tells_summary, tells_lemmas}
use Rattle.lincs_top.proofs.rehearse.write_rehearsal.Goals as goal

pub returns-in-Learned : goal.returns-in-Learned
returns-in-Learned g c = λ problem examples learned limit.
    tells_summary c.deref.result.now
    (subst (IsSummary problem examples) (sym c.deref.ensures.value) (subst (IfLearned (IsSummary problem examples)) c.in-Learned.is learned)) c.write_out.ensures

pub returns-in-Limit : goal.returns-in-Limit
returns-in-Limit g c = λ problem examples learned limit.
    tells_lemmas c.in-Limit.log (subst (IfLimit _) c.in-Limit.is limit) (c.concluded.ensures _ _ _ c.send_log.ensures.sends)
