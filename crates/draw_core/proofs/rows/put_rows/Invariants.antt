use Rattle.std.proofs.Common.{◌≡◌, ◌*◌, ◌++◌, length}
use Rattle.model_core.specs.Model.{rule_of}
use Rattle.encoding_rules.specs.Each.{each}
use Rattle.draw_core.specs.DrawnTable.{drawn_record}
use Rattle.draw_core.specs.Words.{after, seeded, words_of}
use Rattle.draw_core.proofs.rows.put_rows.Given as goal

abbrev pub invariant-loop-row : goal.invariant-loop-row
invariant-loop-row l = record {
  text : l.out.items ≡ l.initial.out.items ++ each (drawn_record l.problem (rule_of l.problem l.model) (words_of (seeded l.seed) (l.rows * length l.problem.criteria))) l.row;
  generator : l.generator ≡ after (l.row * length l.problem.criteria) (seeded l.seed);
}
