-- What is said of a refutation.
use Rattle.std.specs.Prelude.{◌≡◌, ℕ, false, List, [], None, Some, Result, Ok, Err, codes}
use Rattle.edge_core.specs.Outside.{SinkState}
use Rattle.literals_core.specs.Formula.{Cnf}
use Rattle.chain_core.specs.Log.{IsRefutation}
use Rattle.chain_core.specs.Refusal.{IsRefused}
use Rattle.chain_core.specs.declared.log.Lemma.{Lemma}
use Rattle.chain_core.specs.declared.fault.CheckFault.{CheckFault}
use Rattle.chain_core.specs.declared.fault.CheckFault.TheVariants as check
use Rattle.lincs_top.specs.declared.stop.Verdict.{Verdict}
use Rattle.lincs_top.specs.declared.stop.Verdict.TheVariants.{Done, No, Rejected, Limit}
use Rattle.lincs_top.specs.declared.stop.Stop.{Stop}
use Rattle.lincs_top.specs.declared.stop.Stop.TheVariants.{NoMemory}
use Rattle.lincs_top.specs.Deliver.{Concludes}
use Rattle.lincs_top.specs.End.{gave}

-- the verdict on a log that is refused: the number of the fault, and its line, if it has one
abbrev pub rejected : CheckFault → Verdict
rejected check.NoMemory = Rejected 0 None
rejected (check.Id line) = Rejected 1 (Some line)
rejected (check.Literal line) = Rejected 2 (Some line)
rejected (check.Hint line) = Rejected 3 (Some line)
rejected (check.Chain line) = Rejected 4 (Some line)
rejected check.NotEmpty = Rejected 5 None

-- the same, or out of memory
abbrev pub rejection : CheckFault → Result Verdict Stop
rejection check.NoMemory = Err NoMemory
rejection fault = Ok (rejected fault)

-- a log is accepted if it is a refutation of the formula, and rejected if it is refused
abbrev pub Judged : Cnf → List Lemma → Verdict → Type 0
Judged formula log Done = IsRefutation formula log
Judged formula log No = ⊥
Judged formula log (Rejected code line) =
    (fault : CheckFault) × IsRefused formula log fault × (rejected fault ≡ Rejected code line)
Judged formula log (Limit most) = ⊥

abbrev pub judged_text : Verdict → List ℕ
judged_text Done = codes "accepted\n"
judged_text verdict = []

-- a log was judged, and the output went out as far as it could
pub record TellsJudged (formula : Cnf) (log : List Lemma) (old new : SinkState) (result : Result Verdict Stop) : Type 0
  where
    pub verdict : Verdict
    pub judged : Judged formula log verdict
    pub concludes : Concludes false (gave verdict) (judged_text verdict) old new result
