-- The number of literals that is counted is that of the formula.
use Rattle.std.proofs.Common.{◌≡◌, ℕ, ◌-◌, ◌≤◌, List, length, sym, ap, ◌∙◌, arith}
use Rattle.sorting_rule.specs.Examples.{Example}
use Rattle.problem_core.specs.Problem.{ProblemValue, IsProblem}
use Rattle.encoding_rules.specs.Each.{total}
use Rattle.encoding_rules.specs.Task.{Task, IsTask, criteria, boundaries, goods, bads}
use Rattle.encoding_rules.specs.Unknowns.{counted}
use Rattle.encoding_rules.specs.Separation.{steps}
use Rattle.encoding_rules.specs.Coalitions.{set_count, coalition_literal_count}
use Rattle.ranks_core.specs.Ranks.{task_of, RanksValue, AreRanks}
use Rattle.accepted_core.specs.Sizes.{count_in, good_ones, bad_ones}
use Rattle.accepted_core.proofs.NumbersFacts.{criteria_is, counted_is, steps_is}
use Rattle.coalition_core.specs.Sizes.{literals_of}
use Rattle.coalition_core.specs.Formula.{IsSmall}

module _ (problem : ProblemValue) (examples : List Example) (ranks : RanksValue) (are : AreRanks (task_of problem examples) ranks) where
  abbrev task : Task
  task = task_of problem examples

  -- the number of literals that is counted is that of the formula
  pub literals_is : literals_of (length problem.categories - 1) (total (count_in ranks.grades) (length problem.criteria)) (total (λ i. count_in ranks.grades i - 1) (length problem.criteria)) (length problem.criteria) (length (good_ones examples)) (length (bad_ones (length problem.categories) examples)) ≡ coalition_literal_count task
  unfolding boundaries goods bads set_count
  literals_is =
      ap (λ m. literals_of (length problem.categories - 1) m (total (λ i. count_in ranks.grades i - 1) (length problem.criteria)) (length problem.criteria) (length (good_ones examples)) (length (bad_ones (length problem.categories) examples))) (counted_is problem examples ranks are)
      ∙ ap (λ e. literals_of (length problem.categories - 1) (counted task (criteria task)) e (length problem.criteria) (length (good_ones examples)) (length (bad_ones (length problem.categories) examples))) (steps_is problem examples ranks are)
      ∙ ap (λ n. literals_of (length problem.categories - 1) (counted task (criteria task)) (steps task) n (length (good_ones examples)) (length (bad_ones (length problem.categories) examples))) (sym (criteria_is problem examples ranks are))

  -- the number that is computed is that of the formula's literals
  pub number_is : (m n r : ℕ) → m ≡ length problem.categories → n ≡ length problem.criteria
      → r ≡ literals_of (m - 1) (total (count_in ranks.grades) n) (total (λ i. count_in ranks.grades i - 1) n) n (length (good_ones examples)) (length (bad_ones m examples)) → r ≡ coalition_literal_count task
  number_is m n r is_m is_n e =
      e ∙ ap (λ m. literals_of (m - 1) (total (count_in ranks.grades) n) (total (λ i. count_in ranks.grades i - 1) n) n (length (good_ones examples)) (length (bad_ones m examples))) is_m
      ∙ ap (λ n. literals_of (length problem.categories - 1) (total (count_in ranks.grades) n) (total (λ i. count_in ranks.grades i - 1) n) n (length (good_ones examples)) (length (bad_ones (length problem.categories) examples))) is_n
      ∙ literals_is

  pub narrow : (n : ℕ) → n ≡ length problem.criteria → criteria task ≡ n
  narrow n is_n = criteria_is problem examples ranks are ∙ sym is_n

  pub small_from : IsTask task → IsProblem problem → criteria task ≤ 12 → length examples ≤ 4000000000 → coalition_literal_count task ≤ 33554432 → IsSmall task
  unfolding boundaries
  small_from fits is twelve few literals =
      let k = criteria_is problem examples ranks are in
      let some = is.some_criteria in
      let ten = is.few_categories in
      record { fits = fits; some_criteria = omega (arith, k, some); few_criteria = twelve; few_boundaries = omega (arith, ten); few_examples = few; few_literals = literals }
