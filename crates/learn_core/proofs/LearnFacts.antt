-- What a search over the formula of a task says of the task.
use Rattle.std.proofs.Common.{◌≡◌, Bool, List, sym, subst}
use Rattle.std.specs.List.{All}
use Rattle.literals_core.specs.DistinctVariables.{HasDistinctVariables}
use Rattle.literals_core.specs.Formula.{Cnf}
use Rattle.literals_core.specs.Values.{Satisfies}
use Rattle.literals_core.specs.declared.encoding.Encoding.{Encoding}
use Rattle.encoding_rules.specs.Task.{Task, IsTask}
use Rattle.encoding_rules.specs.Encodings.{formula_of}
use Rattle.encoding_rules.proofs.ApartFacts.{all_apart}
use Rattle.search_core.specs.Outcomes.{IsModel}
use Rattle.search_core.specs.Values.{value_at}
use Rattle.learn_core.specs.Satisfies.{SatisfiesOne}

module _ (encoding : Encoding) (task : Task) (formula : Cnf) (is : formula ≡ formula_of encoding task) where
  -- its clauses are of distinct variables
  pub formula_apart : IsTask task → All HasDistinctVariables formula.clauses
  formula_apart fits = subst (λ (f : Cnf). All HasDistinctVariables f.clauses) (sym is) (all_apart encoding task fits)

  -- values that satisfy it satisfy the formula of this encoding
  pub satisfied : (values : List Bool) → IsModel formula values → SatisfiesOne task (value_at values)
  satisfied values model = (encoding, subst (λ (f : Cnf). Satisfies (value_at values) f.clauses) is model.satisfies)
