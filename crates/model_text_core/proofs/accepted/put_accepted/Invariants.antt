use Rattle.std.proofs.Common.{drop, take}
use Rattle.std.specs.Prelude.{All}
use Rattle.written_core.proofs.PutLemmas.{IsPut}
use Rattle.model_text_core.specs.Parts.{accepted_text}
use Rattle.model_text_core.proofs.RowTexts.{IsUtf8Criterion}
use Rattle.model_text_core.proofs.accepted.put_accepted.Given as goal

-- the criteria before a place were appended, and the names of their scales are UTF-8
abbrev pub invariant-loop-i : goal.invariant-loop-i
invariant-loop-i l = record {
  put : IsPut l.initial.out.items l.out.items (accepted_text l.problem.criteria l.model.profiles) (accepted_text (drop l.i l.problem.criteria) (drop l.i l.model.profiles));
  names : All IsUtf8Criterion (take l.i l.problem.criteria);
}
