-- What a rehearsal writes, and how its command ends.
use Rattle.std.proofs.Common.{inl, inr, ℕ, false, List, Result, Err, refl, ap}
use Rattle.literals_core.specs.declared.encoding.Encoding.TheVariants.{Separation}
use Rattle.edge_core.specs.Outside.{ShelfState, SinkState}
use Rattle.chain_core.specs.Text.{log_text}
use Rattle.chain_core.specs.declared.log.Lemma.{Lemma}
use Rattle.search_core.specs.Outcomes.{IsAtLimit}
use Rattle.sorting_rule.specs.Examples.{Example}
use Rattle.encoding_rules.specs.Encodings.{formula_of}
use Rattle.encoding_rules.specs.Task.{Task}
use Rattle.ranks_core.specs.Ranks.{task_of}
use Rattle.ranks_core.specs.declared.fault.EncodeFault.{EncodeFault}
use Rattle.ranks_core.specs.declared.fault.EncodeFault.TheVariants as encode
use Rattle.learn_core.specs.Learning.{LearnFaultOf}
use Rattle.problem_core.specs.Problem.{ProblemValue}
use Rattle.rehearsal_core.specs.Rehearsed.{IsSummary}
use Rattle.line_core.specs.Command.{rehearsing}
use Rattle.lincs_top.specs.declared.stop.Verdict.{Verdict}
use Rattle.lincs_top.specs.declared.stop.Verdict.TheVariants.{Done, No, Rejected, Limit}
use Rattle.lincs_top.specs.declared.stop.Stop.{Stop}
use Rattle.lincs_top.specs.Course.{Rehearses}
use Rattle.lincs_top.specs.Deliver.{Concludes}
use Rattle.lincs_top.specs.End.{gave}
use Rattle.lincs_top.specs.Learned.{Rehearsed, TellsRehearsed}
use Rattle.lincs_top.specs.Obeys.{CanGive, Obeys}
use Rattle.lincs_top.specs.Size.{TakesSize}
use Rattle.lincs_top.specs.Stop.{size_stop}
use Rattle.lincs_top.proofs.Came.{Came, came_to_some_end}

module _ {problem : ProblemValue} {examples : List Example} {old new : SinkState} {result : Result Verdict Stop} where
  pub tells_summary : (text : List ℕ) → IsSummary problem examples text → Concludes false (gave Done) text old new result → TellsRehearsed problem examples old new result
  tells_summary text is concludes = record { verdict = Done; text = text; rehearsed = is; concludes = concludes }

  pub tells_lemmas : (log : List Lemma) → IsAtLimit (formula_of Separation (task_of problem examples)) 100000 log
      → Concludes false (gave (Limit 100000)) (log_text Separation log) old new result → TellsRehearsed problem examples old new result
  tells_lemmas log at_limit concludes = record {
    verdict = Limit 100000;
    text = log_text Separation log;
    rehearsed = (refl, record { log = log; is = refl; at_limit = at_limit });
    concludes = concludes;
  }

-- by separation a formula is never too wide
pub rehearsal_stops : {A : Type 0} (task : Task) (count : ℕ) (fault : EncodeFault) → LearnFaultOf Separation task fault → TakesSize {A = A} Separation task (Err (size_stop count fault))
rehearsal_stops task count encode.Wide is = absurd is
rehearsal_stops task count (encode.TooLarge literals) is = record { gives = is }
rehearsal_stops task count encode.NoMemory is = record { gives = tt }

-- a rehearsal can give such a verdict
rehearsed_gives : (problem : ProblemValue) (examples : List Example) (criteria categories rows seed : ℕ) (verdict : Verdict) (text : List ℕ) → Rehearsed problem examples verdict text
    → CanGive (rehearsing criteria categories rows seed) verdict
rehearsed_gives problem examples criteria categories rows seed Done text r = inl refl
rehearsed_gives problem examples criteria categories rows seed No text r = absurd r
rehearsed_gives problem examples criteria categories rows seed (Limit number) text r = inr (ap Limit r.0)
rehearsed_gives problem examples criteria categories rows seed (Rejected code line) text r = absurd r

-- the command came to the end of its rehearsal
pub came_to_a_rehearsal : {criteria categories rows seed : ℕ} {old new : ShelfState} {count : ℕ} {left : List (List ℕ)} {problem : ProblemValue} {examples : List Example} {out out' : SinkState} {result : Result Verdict Stop}
    → Came (rehearsing criteria categories rows seed) old new count left (Rehearses problem examples)
    → TellsRehearsed problem examples out out' result → Obeys (rehearsing criteria categories rows seed) old new out out' result
came_to_a_rehearsal {criteria} {categories} {rows} {seed} {problem = problem} {examples = examples} c t =
    came_to_some_end c t.concludes (λ world. record { verdict = t.verdict; text = t.text; rehearsed = t.rehearsed; is = refl })
    (rehearsed_gives problem examples criteria categories rows seed t.verdict t.text t.rehearsed)
