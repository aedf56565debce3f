-- What learning writes.
use Rattle.std.specs.Prelude.{◌≡◌, ◌⊎◌, ℕ, false, List, Result, Ok, Err}
use Rattle.edge_core.specs.Outside.{SinkState}
use Rattle.literals_core.specs.declared.encoding.Encoding.{Encoding}
use Rattle.literals_core.specs.declared.encoding.Encoding.TheVariants.{Separation}
use Rattle.chain_core.specs.Text.{log_text}
use Rattle.chain_core.specs.declared.log.Lemma.{Lemma}
use Rattle.search_core.specs.Outcomes.{IsAtLimit, IsShortRefutation}
use Rattle.sorting_rule.specs.Examples.{Example, HasNoModel}
use Rattle.sorting_rule.specs.Rebuilt.{Learns}
use Rattle.encoding_rules.specs.Task.{Task}
use Rattle.encoding_rules.specs.Encodings.{formula_of}
use Rattle.ranks_core.specs.Ranks.{task_of}
use Rattle.problem_core.specs.Problem.{ProblemValue}
use Rattle.model_core.specs.Model.{ModelValue, Belongs, rule_of}
use Rattle.model_text_core.specs.ModelText.{model_text, ReadsBack}
use Rattle.rehearsal_core.specs.Rehearsed.{IsSummary}
use Rattle.learn_core.specs.declared.learning.Answer.{Answer}
use Rattle.learn_core.specs.declared.learning.Answer.TheVariants as answer
use Rattle.lincs_top.specs.declared.stop.Verdict.{Verdict}
use Rattle.lincs_top.specs.declared.stop.Verdict.TheVariants.{Done, No, Rejected, Limit}
use Rattle.lincs_top.specs.declared.stop.Stop.{Stop}
use Rattle.lincs_top.specs.declared.stop.Stop.TheVariants.{NoMemory}
use Rattle.lincs_top.specs.Deliver.{Concludes}
use Rattle.lincs_top.specs.End.{gave}
use Rattle.lincs_top.specs.FileGives.{model_in}

-- the text of a model: read again for the problem, it is that model, which belongs to the problem, is in rebuilt form
-- and restores the examples
pub record IsModelText (problem : ProblemValue) (examples : List Example) (text : List ℕ) : Type 0 where
  pub model : ModelValue
  pub is : text ≡ model_text problem model
  pub reads : (name : List ℕ) → model_in problem name text ≡ Ok model
  pub belongs : Belongs problem model
  pub learns : Learns examples (rule_of problem model)

-- the text of a refutation of the examples' formula, of at most so many lemmas; no model restores the examples
pub record IsRefutationText (how : Encoding) (task : Task) (most : ℕ) (text : List ℕ) : Type 0 where
  pub log : List Lemma
  pub is : text ≡ log_text how log
  pub refutes : IsShortRefutation (formula_of how task) most log
  pub no_model : HasNoModel task.directions task.categories task.examples

-- the text of a good and fresh log over the examples' formula, of exactly so many lemmas
pub record IsLimitText (how : Encoding) (task : Task) (most : ℕ) (text : List ℕ) : Type 0 where
  pub log : List Lemma
  pub is : text ≡ log_text how log
  pub at_limit : IsAtLimit (formula_of how task) most log

-- what learning writes, by its verdict
abbrev pub Learned : ProblemValue → List Example → Encoding → ℕ → Verdict → List ℕ → Type 0
Learned problem examples how most Done text = IsModelText problem examples text
Learned problem examples how most No text = IsRefutationText how (task_of problem examples) most text
Learned problem examples how most (Limit number) text =
    (number ≡ most) × IsLimitText how (task_of problem examples) most text
Learned problem examples how most (Rejected code line) text = ⊥

-- what a rehearsal writes, by its verdict: a summary, or as many fresh lemmas as its search may make
abbrev pub Rehearsed : ProblemValue → List Example → Verdict → List ℕ → Type 0
Rehearsed problem examples Done text = IsSummary problem examples text
Rehearsed problem examples No text = ⊥
Rehearsed problem examples (Limit number) text =
    (number ≡ 100000) × IsLimitText Separation (task_of problem examples) 100000 text
Rehearsed problem examples (Rejected code line) text = ⊥

-- what an answer of learning says
abbrev pub IsAnswer : ProblemValue → List Example → Encoding → ℕ → Answer → Type 0
IsAnswer problem examples how most (answer.Found model) =
    Belongs problem model × Learns examples (rule_of problem model)
IsAnswer problem examples how most (answer.Refuted log) = let task = task_of problem examples in
    IsShortRefutation (formula_of how task) most log × HasNoModel task.directions task.categories task.examples
IsAnswer problem examples how most (answer.Limit log) = IsAtLimit (formula_of how (task_of problem examples)) most log

-- memory ran out before anything was written
abbrev pub RunsShort : SinkState → SinkState → Result Verdict Stop → Type 0
RunsShort old new result = (result ≡ Err NoMemory) × (new ≡ old)

-- the text of a model, which reads back, went out as far as it could
pub record SendsModel (problem : ProblemValue) (model : ModelValue) (old new : SinkState)
    (result : Result Verdict Stop) : Type 0 where
  pub reads : ReadsBack problem model
  pub concludes : Concludes false (gave Done) (model_text problem model) old new result

-- what was learned went out as far as it could
pub record SendsLearned (problem : ProblemValue) (examples : List Example) (how : Encoding) (most : ℕ)
    (old new : SinkState) (result : Result Verdict Stop) : Type 0 where
  pub verdict : Verdict
  pub text : List ℕ
  pub learned : Learned problem examples how most verdict text
  pub concludes : Concludes false (gave verdict) text old new result

abbrev pub TellsModel : ProblemValue → ModelValue → SinkState → SinkState → Result Verdict Stop → Type 0
TellsModel problem model old new result = RunsShort old new result ⊎ SendsModel problem model old new result

abbrev pub TellsLearned : ProblemValue → List Example → Encoding → ℕ → SinkState → SinkState → Result Verdict Stop
    → Type 0
TellsLearned problem examples how most old new result =
    RunsShort old new result ⊎ SendsLearned problem examples how most old new result

-- the output of a rehearsal went out as far as it could
pub record TellsRehearsed (problem : ProblemValue) (examples : List Example) (old new : SinkState)
    (result : Result Verdict Stop) : Type 0 where
  pub verdict : Verdict
  pub text : List ℕ
  pub rehearsed : Rehearsed problem examples verdict text
  pub concludes : Concludes false (gave verdict) text old new result
