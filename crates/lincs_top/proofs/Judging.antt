-- Refutations that are judged.
use Rattle.std.proofs.Common.{◌≡◌, ◌⊎◌, ◌↔◌, inl, inr, ℕ, List, Option, None, Some, Result, Ok, Err, refl, sym, subst, arith, length}
use Rattle.std.proofs.lemmas.List.{length-map}
use Rattle.std.proofs.KnownBytes.{Appends-nil}
use Rattle.literals_core.specs.declared.encoding.Encoding.{Encoding}
use Rattle.literals_core.specs.Formula.{Cnf}
use Rattle.edge_core.specs.Outside.{ShelfState, SinkState}
use Rattle.sorting_rule.specs.Examples.{Example, HasNoModel}
use Rattle.literals_core.specs.Values.{IsUnsatisfiable}
use Rattle.chain_core.proofs.TruthLemmas.{refutation_sound}
use Rattle.problem_core.specs.Grade.{direction_of}
use Rattle.problem_core.specs.Problem.{ProblemValue}
use Rattle.encoding_rules.specs.Task.{Task, criteria}
use Rattle.encoding_rules.specs.Encodings.{HasFormula, formula_of}
use Rattle.ranks_core.specs.Fault.{FaultOf}
use Rattle.ranks_core.specs.Ranks.{task_of}
use Rattle.ranks_core.specs.declared.fault.EncodeFault.{EncodeFault}
use Rattle.ranks_core.specs.declared.fault.EncodeFault.TheVariants as encode
use Rattle.line_core.specs.Command.{checking}
use Rattle.chain_core.specs.Log.{IsRefutation, refutation_fault}
use Rattle.chain_core.specs.Refusal.{IsRefused}
use Rattle.chain_core.specs.declared.log.Lemma.{Lemma}
use Rattle.chain_core.specs.declared.fault.CheckFault.{CheckFault}
use Rattle.chain_core.specs.declared.fault.CheckFault.TheVariants as check
use Rattle.lincs_top.specs.declared.stop.Verdict.{Verdict}
use Rattle.lincs_top.specs.declared.stop.Verdict.TheVariants.{Done, No, Rejected, Limit}
use Rattle.lincs_top.specs.declared.stop.Stop.{Stop}
use Rattle.lincs_top.specs.declared.stop.Stop.TheVariants.{NoMemory}
use Rattle.lincs_top.specs.Course.{Judges}
use Rattle.lincs_top.specs.Judged.{rejected, rejection, Judged, TellsJudged}
use Rattle.lincs_top.specs.Obeys.{Obeys}
use Rattle.lincs_top.specs.Size.{TakesSize}
use Rattle.lincs_top.specs.Stop.{size_stop}
use Rattle.lincs_top.proofs.Came.{Came, came_to_some_end}

-- a log that is refused is rejected so
pub judged_refused : (formula : Cnf) (log : List Lemma) (fault : CheckFault) → IsRefused formula log fault → Judged formula log (rejected fault)
judged_refused formula log check.NoMemory is = (check.NoMemory, is, refl)
judged_refused formula log (check.Id line) is = (check.Id line, is, refl)
judged_refused formula log (check.Literal line) is = (check.Literal line, is, refl)
judged_refused formula log (check.Hint line) is = (check.Hint line, is, refl)
judged_refused formula log (check.Chain line) is = (check.Chain line, is, refl)
judged_refused formula log check.NotEmpty is = (check.NotEmpty, is, refl)

module _ {formula : Cnf} {log : List Lemma} where
  -- each log is judged
  by_fault : (found : Option CheckFault) → refutation_fault formula log ≡ found → (refutation_fault formula log ≡ None) ↔ IsRefutation formula log
      → ((fault : CheckFault) → (refutation_fault formula log ≡ Some fault) ↔ IsRefused formula log fault) → (verdict : Verdict) × Judged formula log verdict
  by_fault None is exact cause = (Done, exact.0 is)
  by_fault (Some fault) is exact cause = (rejected fault, judged_refused formula log fault ((cause fault).0 is))

  -- out of memory before the verdict
  pub judged_short : (out : SinkState) → (refutation_fault formula log ≡ None) ↔ IsRefutation formula log
      → ((fault : CheckFault) → (refutation_fault formula log ≡ Some fault) ↔ IsRefused formula log fault) → TellsJudged formula log out out (Err NoMemory)
  judged_short out exact cause = let some = by_fault (refutation_fault formula log) refl exact cause in
      record { verdict = some.0; judged = some.1; concludes = record { later = omega arith; gives = inl refl } }

  -- a rejected log
  pub judged_rejected : (out : SinkState) (fault : CheckFault) → IsRefused formula log fault → TellsJudged formula log out out (Ok (rejected fault))
  judged_rejected out check.NoMemory is = record { verdict = rejected check.NoMemory; judged = judged_refused formula log check.NoMemory is; concludes = record { later = omega arith; gives = (refl, Appends-nil out.written) } }
  judged_rejected out (check.Id line) is = record { verdict = rejected (check.Id line); judged = judged_refused formula log (check.Id line) is; concludes = record { later = omega arith; gives = (refl, Appends-nil out.written) } }
  judged_rejected out (check.Literal line) is = record { verdict = rejected (check.Literal line); judged = judged_refused formula log (check.Literal line) is; concludes = record { later = omega arith; gives = (refl, Appends-nil out.written) } }
  judged_rejected out (check.Hint line) is = record { verdict = rejected (check.Hint line); judged = judged_refused formula log (check.Hint line) is; concludes = record { later = omega arith; gives = (refl, Appends-nil out.written) } }
  judged_rejected out (check.Chain line) is = record { verdict = rejected (check.Chain line); judged = judged_refused formula log (check.Chain line) is; concludes = record { later = omega arith; gives = (refl, Appends-nil out.written) } }
  judged_rejected out check.NotEmpty is = record { verdict = rejected check.NotEmpty; judged = judged_refused formula log check.NotEmpty is; concludes = record { later = omega arith; gives = (refl, Appends-nil out.written) } }

  -- a log that is refused, or out of memory
  pub judged_stop : (out : SinkState) (fault : CheckFault) → (fault ≡ check.NoMemory) ⊎ (refutation_fault formula log ≡ Some fault) → (refutation_fault formula log ≡ None) ↔ IsRefutation formula log
      → ((fault : CheckFault) → (refutation_fault formula log ≡ Some fault) ↔ IsRefused formula log fault) → TellsJudged formula log out out (rejection fault)
  judged_stop out check.NoMemory is exact cause = judged_short out exact cause
  judged_stop out (check.Id line) (inr is) exact cause = judged_rejected out (check.Id line) ((cause (check.Id line)).0 is)
  judged_stop out (check.Literal line) (inr is) exact cause = judged_rejected out (check.Literal line) ((cause (check.Literal line)).0 is)
  judged_stop out (check.Hint line) (inr is) exact cause = judged_rejected out (check.Hint line) ((cause (check.Hint line)).0 is)
  judged_stop out (check.Chain line) (inr is) exact cause = judged_rejected out (check.Chain line) ((cause (check.Chain line)).0 is)
  judged_stop out check.NotEmpty (inr is) exact cause = judged_rejected out check.NotEmpty ((cause check.NotEmpty).0 is)
  judged_stop out (check.Id line) (inl none) exact cause = absurd cc
  judged_stop out (check.Literal line) (inl none) exact cause = absurd cc
  judged_stop out (check.Hint line) (inl none) exact cause = absurd cc
  judged_stop out (check.Chain line) (inl none) exact cause = absurd cc
  judged_stop out check.NotEmpty (inl none) exact cause = absurd cc

-- checking can give such a verdict
judged_gives : (formula : Cnf) (log : List Lemma) (verdict : Verdict) → Judged formula log verdict → (verdict ≡ Done) ⊎ ((fault : CheckFault) × (verdict ≡ rejected fault))
judged_gives formula log Done is = inl refl
judged_gives formula log No is = absurd is
judged_gives formula log (Rejected code line) is = inr (is.0, sym is.2)
judged_gives formula log (Limit most) is = absurd is

-- a refutation that is accepted means that there is no model
no_model_at : (formula : Cnf) (log : List Lemma) (none : Type 0) → (IsUnsatisfiable formula → none) → (verdict : Verdict) → Judged formula log verdict → verdict ≡ Done → none
no_model_at formula log none complete verdict judged done = complete (refutation_sound formula log (subst (Judged formula log) done judged))

-- the command came to its judgement
pub came_to_a_judgement : {problem table refutation : List ℕ} {old new : ShelfState} {count : ℕ} {left : List (List ℕ)} {how : Encoding} {task : Task} {made : Cnf} {log : List Lemma} {out out' : SinkState} {result : Result Verdict Stop}
    → Came (checking problem table refutation) old new count left (Judges how task log) → made ≡ formula_of how task → (IsUnsatisfiable made → HasNoModel task.directions task.categories task.examples)
    → TellsJudged made log out out' result → Obeys (checking problem table refutation) old new out out' result
came_to_a_judgement {how = how} {task = task} {made = made} {log = log} c same complete t =
    let none = HasNoModel task.directions task.categories task.examples in
    let judged : Judged (formula_of how task) log t.verdict = subst (λ f. Judged f log t.verdict) same t.judged in
    came_to_some_end c t.concludes (λ world. record { verdict = t.verdict; judged = judged; means = no_model_at made log none complete t.verdict t.judged; is = refl }) (judged_gives (formula_of how task) log t.verdict judged)

-- a formula was made, or it is too large, or out of memory
module _ {encoding : Encoding} {task : Task} where
  pub size_fits : {A : Type 0} (made : A) → HasFormula encoding task → TakesSize encoding task (Ok made)
  size_fits made fits = record { gives = fits }

  pub size_stops : {A : Type 0} (count : ℕ) (fault : EncodeFault) → count ≡ criteria task → FaultOf encoding task fault → TakesSize {A = A} encoding task (Err (size_stop count fault))
  size_stops count encode.Wide same is = record { gives = (is, same) }
  size_stops count (encode.TooLarge literals) same is = record { gives = is }
  size_stops count encode.NoMemory same is = record { gives = tt }

pub criteria_counted : (problem : ProblemValue) (examples : List Example) → length problem.criteria ≡ criteria (task_of problem examples)
unfolding criteria
criteria_counted problem examples = sym (length-map problem.criteria (λ criterion. direction_of criterion.scale))

-- the same of values that are the same
pub moved : {formula : Cnf} {log : List Lemma} {old new new' : SinkState} {result result' : Result Verdict Stop} → TellsJudged formula log old new result → new' ≡ new → result' ≡ result → TellsJudged formula log old new' result'
moved {formula} {log} {old} {new} {new'} {result} {result'} t n r = subst (λ s. TellsJudged formula log old s result') (sym n) (subst (TellsJudged formula log old new) (sym r) t)
