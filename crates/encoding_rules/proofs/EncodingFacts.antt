-- Both encodings.
use Rattle.std.proofs.Common.{◌≡◌, ℕ, Bool, List, length}
use Rattle.std.specs.List.{sum_by}
use Rattle.sorting_rule.specs.Examples.{HasNoModel}
use Rattle.sorting_rule.specs.Rebuilt.{own_sets, AreMinimal, Learns}
use Rattle.literals_core.specs.Values.{Satisfies, AreUnsatisfiable}
use Rattle.encoding_rules.specs.Task.{Task, IsTask}
use Rattle.encoding_rules.specs.Meaning.{IsNested, SetsApart}
use Rattle.encoding_rules.specs.Rebuilt.{rebuilt_profiles, rebuilt}
use Rattle.literals_core.specs.Formula.{AreLiterals}
use Rattle.encoding_rules.specs.Encodings.{variables_of, clauses_of, clause_count_of, literal_count_of}
use Rattle.literals_core.specs.declared.encoding.Encoding.{Encoding}
use Rattle.literals_core.specs.declared.encoding.Encoding.TheVariants.{Separation, Coalitions}
use Rattle.encoding_rules.proofs.SizeFacts.{length_separation, literals_separation}
use Rattle.encoding_rules.proofs.RangeFacts.{separation_in_range}
use Rattle.encoding_rules.proofs.CoalitionRange.{coalitions_in_range}
use Rattle.encoding_rules.proofs.CoalitionSizes.{length_coalitions, literals_coalitions}
use Rattle.encoding_rules.proofs.Complete.{no_model}
use Rattle.encoding_rules.proofs.CoalitionComplete.{no_model_of_sets}
use Rattle.encoding_rules.proofs.Clauses.{nested, apart}
use Rattle.encoding_rules.proofs.CoalitionClauses.{coalition_nested, coalition_apart}
use Rattle.encoding_rules.proofs.Laws.{learns}

pub literals_either : (encoding : Encoding) (task : Task) → sum_by length (clauses_of encoding task) ≡ literal_count_of encoding task
literals_either Separation task = literals_separation task
literals_either Coalitions task = literals_coalitions task

pub length_either : (encoding : Encoding) (task : Task) → length (clauses_of encoding task) ≡ clause_count_of encoding task
length_either Separation task = length_separation task
length_either Coalitions task = length_coalitions task

pub range_either : (encoding : Encoding) (task : Task) → IsTask task → AreLiterals (variables_of encoding task) (clauses_of encoding task)
range_either Separation task fits = separation_in_range task fits
range_either Coalitions task fits = coalitions_in_range task fits

pub no_model_either : (encoding : Encoding) (task : Task) → IsTask task → AreUnsatisfiable (clauses_of encoding task) → HasNoModel task.directions task.categories task.examples
no_model_either Separation task fits none = no_model task fits none
no_model_either Coalitions task fits none = no_model_of_sets task fits none

pub nested_either : (encoding : Encoding) (task : Task) (values : ℕ → Bool) → Satisfies values (clauses_of encoding task) → IsNested task values
nested_either Separation task values h = nested task values h
nested_either Coalitions task values h = coalition_nested task values h

pub apart_either : (encoding : Encoding) (task : Task) (values : ℕ → Bool) → Satisfies values (clauses_of encoding task) → SetsApart task values
apart_either Separation task values h = apart task values h
apart_either Coalitions task values h = coalition_apart task values h

pub learns_either : (encoding : Encoding) (task : Task) → IsTask task → (values : ℕ → Bool) → Satisfies values (clauses_of encoding task)
    → (rs : List ℕ) → AreMinimal (own_sets (rebuilt_profiles task values) task.examples) rs → Learns task.examples (rebuilt task values rs)
learns_either encoding task fits values h rs minimal = learns task fits values (nested_either encoding task values h) (apart_either encoding task values h) rs minimal
