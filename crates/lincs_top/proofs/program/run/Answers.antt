use Rattle.std.proofs.Common.{sym, ◌∙◌, subst}
use Rattle.lincs_top.specs.Stop.{report_of}
use Rattle.lincs_top.specs.Run.{StatusTells}
use Rattle.lincs_top.proofs.Headline.{sorts, finds_model, writes_refutation, writes_lemmas, accepts}
use Rattle.lincs_top.proofs.Running.{status_tells, completes, no_read_fault, no_write_fault, usage_exactly, done_says_nothing}
use Rattle.lincs_top.proofs.program.run.Goals as goal

pub returns-clause-report : goal.returns-clause-report
returns-clause-report g c = record {
  report = report_of c.do_line-end.result;
  named = c.status_of.ensures;
  causes = c.do_line-end.ensures.causes;
  keeps = c.do_line-end.ensures.keeps;
  line = c.write_line.ensures;
}

pub returns-clause-tells : goal.returns-clause-tells
returns-clause-tells g c = rw c.status_of.ensures (status_tells _ _ _ _ _ _ c.do_line-end.ensures.causes c.do_line-end.ensures.keeps)

pub returns-clause-usage : goal.returns-clause-usage
returns-clause-usage g c = rw c.status_of.ensures (usage_exactly _ _ _ _ _ _ c.do_line-end.ensures.causes)

pub returns-clause-quiet : goal.returns-clause-quiet
returns-clause-quiet g c = λ done. done_says_nothing _ _ _ c.write_line.ensures (sym c.status_of.ensures ∙ done)

pub returns-clause-complete : goal.returns-clause-complete
returns-clause-complete g c = completes _ _ _ _ _ _ (returns-clause-tells g c)

pub returns-clause-safe_shelf : goal.returns-clause-safe_shelf
returns-clause-safe_shelf g c = no_read_fault _ _ _ _ _ _ (returns-clause-tells g c)

pub returns-clause-safe_out : goal.returns-clause-safe_out
returns-clause-safe_out g c = no_write_fault _ _ _ _ _ _ (returns-clause-tells g c)

pub returns-clause-sorted : goal.returns-clause-sorted
returns-clause-sorted g c = λ is. sorts _ _ _ _ _ (subst (StatusTells _ _ _ _ _) is (returns-clause-tells g c))

pub returns-clause-model : goal.returns-clause-model
returns-clause-model g c = λ is. finds_model _ _ _ _ _ (subst (StatusTells _ _ _ _ _) is (returns-clause-tells g c))

pub returns-clause-refutation : goal.returns-clause-refutation
returns-clause-refutation g c = λ is. writes_refutation _ _ _ _ _ (subst (StatusTells _ _ _ _ _) is (returns-clause-tells g c))

pub returns-clause-lemmas : goal.returns-clause-lemmas
returns-clause-lemmas g c = λ is. writes_lemmas _ _ _ _ _ (subst (StatusTells _ _ _ _ _) is (returns-clause-tells g c))

pub returns-clause-accepted : goal.returns-clause-accepted
returns-clause-accepted g c = λ is. accepts _ _ _ _ _ (subst (StatusTells _ _ _ _ _) is (returns-clause-tells g c))
