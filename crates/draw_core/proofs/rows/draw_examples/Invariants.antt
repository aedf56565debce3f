use Rattle.std.proofs.Common.{◌≡◌, ◌*◌, length}
use Rattle.model_core.specs.Model.{rule_of}
use Rattle.table_core.specs.Examples.{BelongTo}
use Rattle.encoding_rules.specs.Each.{listed}
use Rattle.draw_core.specs.DrawnTable.{drawn_example}
use Rattle.draw_core.specs.Words.{after, seeded, words_of}
use Rattle.draw_core.proofs.rows.draw_examples.Given as goal

abbrev pub invariant-loop : goal.invariant-loop
invariant-loop l = record {
  examples : l.examples ≡ listed (drawn_example l.problem (rule_of l.problem l.model) (words_of (seeded l.seed) (l.rows * length l.problem.criteria))) l.counter;
  belong : BelongTo l.problem l.examples;
  generator : l.generator ≡ after (l.counter * length l.problem.criteria) (seeded l.seed);
}
