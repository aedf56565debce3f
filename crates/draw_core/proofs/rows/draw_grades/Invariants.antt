use Rattle.std.proofs.Common.{◌≡◌, take}
use Rattle.std.specs.List.{AllZip}
use Rattle.problem_core.specs.Grade.{IsGrade}
use Rattle.encoding_rules.specs.Each.{listed}
use Rattle.draw_core.specs.Choice.{scale_at}
use Rattle.draw_core.specs.DrawnTable.{drawn_grade}
use Rattle.draw_core.specs.Words.{after, word}
use Rattle.draw_core.proofs.rows.draw_grades.Given as goal

abbrev pub invariant-loop-i : goal.invariant-loop-i
invariant-loop-i l = record {
  grades : l.grades.items ≡ listed (λ k. drawn_grade (scale_at l.problem.criteria k) (word l.fn.generator k)) l.i;
  belong : AllZip (λ criterion grade. IsGrade criterion.scale grade) (take l.i l.problem.criteria) l.grades.items;
  generator : l.generator ≡ after l.i l.fn.generator;
}
