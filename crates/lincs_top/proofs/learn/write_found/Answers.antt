use Rattle.std.proofs.Common.{◌∙◌, ◌++◌, ap, false, inr, subst}
use Rattle.lincs_top.specs.declared.stop.Verdict.TheVariants.{Done}
use Rattle.model_text_core.specs.ModelText.{model_text}
use Rattle.lincs_top.specs.Deliver.{Concludes}
use Rattle.lincs_top.specs.End.{gave}
use Rattle.lincs_top.proofs.learn.write_found.Goals as goal

pub returns : goal.returns
returns g c = inr (record {
  reads = c.in-Ok.ensures.reads;
  concludes = subst (λ t. Concludes false (gave Done) t (g.O.Sink.state c.args.out.now) (g.O.Sink.state c.write_out.new.out) c.write_out.result)
      (c.deref.ensures.value ∙ c.in-Ok.ensures.text ∙ ap (λ l. l ++ model_text c.args.problem.now c.args.model.now) c.new-text.ensures.items) c.write_out.ensures;
})
