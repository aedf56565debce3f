use Rattle.std.proofs.Common.{drop, take}
use Rattle.std.specs.Prelude.{All}
use Rattle.written_core.proofs.PutLemmas.{IsPut}
use Rattle.problem_text_core.specs.Parts.{criteria_text}
use Rattle.problem_text_core.specs.ProblemText.{IsKeptCriterion}
use Rattle.problem_text_core.proofs.criteria.put_criteria.Given as goal

-- the criteria before a place were appended, and their parts are as their types keep them
abbrev pub invariant-loop-i : goal.invariant-loop-i
invariant-loop-i l = record {
  put : IsPut l.initial.out.items l.out.items (criteria_text l.problem.criteria) (criteria_text (drop l.i l.problem.criteria));
  kept : All IsKeptCriterion (take l.i l.problem.criteria);
}
