-- What learning writes, and how its command ends.
use Rattle.std.proofs.Common.{◌≡◌, inl, inr, ℕ, false, List, Result, Ok, Err, refl, sym, ap, ◌∙◌, subst}
use Rattle.literals_core.specs.declared.encoding.Encoding.{Encoding}
use Rattle.edge_core.specs.Outside.{ShelfState, SinkState}
use Rattle.lists_core.specs.Answers.{◌>>=◌}
use Rattle.chain_core.specs.Text.{log_text}
use Rattle.chain_core.specs.declared.log.Lemma.{Lemma}
use Rattle.search_core.specs.Outcomes.{IsAtLimit, IsShortRefutation}
use Rattle.sorting_rule.specs.Examples.{Example, HasNoModel}
use Rattle.sorting_rule.specs.Rebuilt.{Learns}
use Rattle.encoding_rules.specs.Encodings.{formula_of}
use Rattle.encoding_rules.specs.Task.{Task, criteria}
use Rattle.ranks_core.specs.declared.fault.EncodeFault.{EncodeFault}
use Rattle.ranks_core.specs.declared.fault.EncodeFault.TheVariants as encode
use Rattle.learn_core.specs.Learning.{IfFound, LearnFaultOf}
use Rattle.learn_core.specs.declared.learning.Answer.{Answer}
use Rattle.learn_core.specs.declared.learning.Answer.TheVariants as answer
use Rattle.ranks_core.specs.Ranks.{task_of}
use Rattle.problem_core.specs.Problem.{ProblemValue, IsProblem}
use Rattle.model_core.specs.Model.{ModelValue, Belongs, rule_of}
use Rattle.model_core.specs.ReadModel.{model_of}
use Rattle.model_text_core.specs.ModelText.{model_text, ReadsWhole}
use Rattle.model_text_core.proofs.LearnedRoots.{learned-reads-whole}
use Rattle.line_core.specs.Command.{learning}
use Rattle.lincs_top.specs.declared.stop.Verdict.{Verdict}
use Rattle.lincs_top.specs.declared.stop.Verdict.TheVariants.{Done, No, Rejected, Limit}
use Rattle.lincs_top.specs.declared.stop.Refusal.TheVariants as refusal
use Rattle.lincs_top.specs.declared.stop.Stop.{Stop}
use Rattle.lincs_top.specs.declared.stop.Stop.TheVariants.{NoMemory}
use Rattle.lincs_top.specs.Course.{Decides}
use Rattle.lincs_top.specs.Deliver.{Concludes}
use Rattle.lincs_top.specs.End.{gave}
use Rattle.lincs_top.specs.FileGives.{refusing, model_in}
use Rattle.lincs_top.specs.Learned.{Learned, IsAnswer, TellsModel, TellsLearned}
use Rattle.lincs_top.specs.Obeys.{CanGive, Obeys}
use Rattle.lincs_top.specs.Size.{TakesSize}
use Rattle.lincs_top.specs.Stop.{size_stop}
use Rattle.lincs_top.proofs.Came.{Came, came_to_some_end, came_short}

-- a text that reads whole is a model's file
read_in : (problem : ProblemValue) (model : ModelValue) → ReadsWhole problem model → (name : List ℕ) → model_in problem name (model_text problem model) ≡ Ok model
read_in problem model whole name =
    ap (λ read. refusing name refusal.Yaml read >>= λ node. refusing name refusal.Model (model_of problem node)) whole.of_bytes
    ∙ ap (λ read. refusing name refusal.Model read) whole.model

module _ {problem : ProblemValue} {examples : List Example} {how : Encoding} {most : ℕ} {old new : SinkState} {result : Result Verdict Stop} where
  pub tells_model : (model : ModelValue) → IsProblem problem → Belongs problem model → Learns examples (rule_of problem model) → TellsModel problem model old new result → TellsLearned problem examples how most old new result
  tells_model model p b l (inl short) = inl short
  tells_model model p b l (inr sent) = inr (record {
    verdict = Done;
    text = model_text problem model;
    learned = record { model = model; is = refl; reads = read_in problem model (learned-reads-whole problem model examples p b l sent.reads); belongs = b; learns = l };
    concludes = sent.concludes;
  })

  pub tells_refutation : (log : List Lemma) → IsShortRefutation (formula_of how (task_of problem examples)) most log
      → (let task = task_of problem examples in HasNoModel task.directions task.categories task.examples)
      → Concludes false (gave No) (log_text how log) old new result → TellsLearned problem examples how most old new result
  tells_refutation log refutes none concludes = inr (record {
    verdict = No;
    text = log_text how log;
    learned = record { log = log; is = refl; refutes = refutes; no_model = none };
    concludes = concludes;
  })

  pub tells_limit : (log : List Lemma) → IsAtLimit (formula_of how (task_of problem examples)) most log
      → Concludes false (gave (Limit most)) (log_text how log) old new result → TellsLearned problem examples how most old new result
  tells_limit log at_limit concludes = inr (record {
    verdict = Limit most;
    text = log_text how log;
    learned = (refl, record { log = log; is = refl; at_limit = at_limit });
    concludes = concludes;
  })

-- a model that was found belongs to the problem
pub found_belongs : (problem : ProblemValue) (examples : List Example) (how : Encoding) (most : ℕ) (a : Answer) → IsAnswer problem examples how most a → IfFound (Belongs problem) a
found_belongs problem examples how most (answer.Found model) is = is.0
found_belongs problem examples how most (answer.Refuted log) is = tt
found_belongs problem examples how most (answer.Limit log) is = tt

-- the formula is too large, or out of memory
pub learning_stops : {A : Type 0} (encoding : Encoding) (task : Task) (count : ℕ) (fault : EncodeFault) → count ≡ criteria task → LearnFaultOf encoding task fault → TakesSize {A = A} encoding task (Err (size_stop count fault))
learning_stops encoding task count encode.Wide same is = record { gives = (is, same) }
learning_stops encoding task count (encode.TooLarge literals) same is = record { gives = is }
learning_stops encoding task count encode.NoMemory same is = record { gives = tt }

-- learning can give such a verdict
learned_gives : (problem : ProblemValue) (examples : List Example) (how : Encoding) (most : ℕ) (problem_name table_name : List ℕ) (verdict : Verdict) (text : List ℕ) → Learned problem examples how most verdict text
    → CanGive (learning problem_name table_name how most) verdict
learned_gives problem examples how most problem_name table_name Done text l = inl refl
learned_gives problem examples how most problem_name table_name No text l = inr (inl refl)
learned_gives problem examples how most problem_name table_name (Limit number) text l = inr (inr (ap Limit l.0))
learned_gives problem examples how most problem_name table_name (Rejected code line) text l = absurd l

-- the command came to its decision
pub came_to_a_decision : {problem_name table_name : List ℕ} {old new : ShelfState} {count : ℕ} {left : List (List ℕ)} {problem : ProblemValue} {examples : List Example} {how : Encoding} {most : ℕ} {out out' : SinkState} {result : Result Verdict Stop}
    → Came (learning problem_name table_name how most) old new count left (Decides problem examples how most)
    → TellsLearned problem examples how most out out' result → Obeys (learning problem_name table_name how most) old new out out' result
came_to_a_decision {problem_name} {table_name} {old} {new} {how = how} {most = most} {out = out} {result = result} c (inl short) =
    subst (λ s. Obeys (learning problem_name table_name how most) old new out s result) (sym short.1)
    (subst (Obeys (learning problem_name table_name how most) old new out out) (sym short.0) (came_short c))
came_to_a_decision {problem_name} {table_name} {problem = problem} {examples = examples} {how = how} {most = most} c (inr sent) =
    came_to_some_end c sent.concludes (λ world. record { verdict = sent.verdict; text = sent.text; learned = sent.learned; is = refl })
    (learned_gives problem examples how most problem_name table_name sent.verdict sent.text sent.learned)
