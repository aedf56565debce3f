use Rattle.std.proofs.Common.{ℕ, List, [], ◌++◌, length}
use Rattle.sorting_rule.specs.Examples.{Example}
use Rattle.problem_core.specs.Problem.{ProblemValue}
use Rattle.model_core.specs.Model.{ModelValue, rule_of}
use Rattle.model_text_core.specs.ModelText.{model_text}
use Rattle.model_text_core.proofs.LearnedRoots.{learned-reads-whole}
use Rattle.report_core.specs.Restored.{restored_count}
use Rattle.rehearsal_core.specs.Rehearsed.{summary_text, counts_text, restored_line}
use Rattle.rehearsal_core.proofs.SummaryFacts.{onto}
use Rattle.rehearsal_core.proofs.summary.summary.Goals as goal

pub returns : goal.returns
unfolding summary_text
returns c =
    let problem : ProblemValue = c.args.problem.now in
    let examples : List Example = c.args.examples.now in
    let model : ModelValue = c.args.model.now in
    let counts : List ℕ = counts_text problem examples in
    let restored : List ℕ = restored_line (restored_count (rule_of problem model) examples) (length examples) in
    record {
      model = model;
      is = onto [] c.put_counts.new.out.items c.write_model.new.out.items counts (restored ++ model_text problem model) (rw c.new-text.ensures.items at c.in_ok-put_counts.ensures)
          (onto c.put_counts.new.out.items c.put_restored.new.out.items c.write_model.new.out.items restored (model_text problem model)
          (rw (c.accuracy-restored.ensures.restored, c.accuracy-restored.ensures.all) at c.in_ok-put_restored.ensures) c.in_ok-write_model.ensures.text);
      belongs = c.requires.belongs;
      learns = c.requires.learns;
      whole = learned-reads-whole problem model examples c.requires.problem c.requires.belongs c.requires.learns c.in_ok-write_model.ensures.reads;
    }
