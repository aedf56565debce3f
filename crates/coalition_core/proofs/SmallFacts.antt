-- What a small task's formula needs.
use Rattle.std.proofs.Common.{◌≡◌, ℕ, ◌+◌, ◌-◌, ◌*◌, ◌^◌, ◌<◌, ◌≤◌, List, [], ◌++◌, length, get_or, map, sym, ap, ◌∙◌, subst, arith}
use Rattle.std.specs.List.{All, Contains}
use Rattle.std.proofs.Math.Nat.{mul_assoc, mul-le-mul_right}
use Rattle.std.proofs.Math.Pow.{pow_mono}
use Rattle.std.proofs.lemmas.List.Elements.{All-map, All-contains, Contains-get_or}
use Rattle.sorting_rule.specs.Examples.{Example}
use Rattle.literals_core.specs.Formula.{AreLiterals}
use Rattle.encoding_rules.specs.Task.{Task, criteria, boundaries, goods, bads}
use Rattle.encoding_rules.specs.Ranks.{rank}
use Rattle.encoding_rules.specs.Unknowns.{accepted, accepted_count}
use Rattle.encoding_rules.specs.Shared.{better_clauses, lower_clauses}
use Rattle.encoding_rules.specs.Separation.{steps}
use Rattle.encoding_rules.specs.Coalitions.{set_count, larger_clauses, bad_set_clauses, good_set_clauses, coalition_variables, coalition_clauses, coalition_clause_count}
use Rattle.encoding_rules.proofs.EachFacts.{listed_all}
use Rattle.encoding_rules.proofs.RangeFacts.{accepted_range, accepted_few}
use Rattle.encoding_rules.proofs.TaskFacts.{good_example, bad_example, rank_is}
use Rattle.encoding_rules.proofs.CoalitionSizes.{length_coalitions}
use Rattle.encoding_rules.proofs.CoalitionRange.{coalitions_in_range, coalition_clauses_few}
use Rattle.accepted_core.specs.Takes.{CanTake, AreSmall}
use Rattle.accepted_core.specs.Numbers.{Numbers, AreNumbers, good_row, bad_row}
use Rattle.accepted_core.specs.Small.{IsFew}
use Rattle.accepted_core.specs.Plain.{lower_of}
use Rattle.accepted_core.proofs.PlainFacts.{many, better_is, lower_is}
use Rattle.accepted_core.proofs.WidthFacts.{good_widths, bad_widths, same_many, are_small}
use Rattle.coalition_core.specs.Plain.{IsUnknown, larger_of_sets, bads_clauses, goods_clauses}
use Rattle.coalition_core.specs.Formula.{IsSmall, sets_of, plain_clauses, plain_variables}
use Rattle.coalition_core.proofs.PlainFacts.{larger_is, bads_are, goods_are}

-- a task whose formula is small has few unknowns
pub is_few : (task : Task) → IsSmall task → IsFew task
is_few task is =
    let some = is.some_criteria in
    let few = is.few_criteria in
    let literals = is.few_literals in
    let bound = accepted_few task in
    let two : 2 * boundaries task * steps task ≡ 2 * (boundaries task * steps task) = mul_assoc 2 (boundaries task) (steps task) in
    let area : boundaries task * criteria task ≤ 9 * criteria task = mul-le-mul_right (criteria task) is.few_boundaries in
    record { fits = is.fits; some_criteria = some; few_criteria = omega (arith, few); few_boundaries = is.few_boundaries; few_examples = is.few_examples; few_accepted = omega (arith, bound, two, area, few, literals) }

module _ (task : Task) (is : IsSmall task) where
  -- the unknowns of an example are numbers that a formula can have
  good_unknown : (g : Example) → Contains (goods task) g → All IsUnknown (good_row task g)
  unfolding boundaries
  good_unknown g among =
      let own = good_example task g among in
      let some = own.1 in
      let fits = is.fits in
      let below : g.category < task.categories = All-contains (λ (e : Example). e.category < task.categories) task.examples g fits.categories own.0 in
      let few = (is_few task is).few_accepted in
      listed_all IsUnknown (λ i. accepted task i (g.category - 1) (rank task i g)) (criteria task) (λ i li.
      let r = accepted_range task i (g.category - 1) (rank task i g) li (omega (arith, below, some)) (rank_is task i g own.0).0 in
      let high = r.1 in
      (r.0, omega (arith, high, few)))

  bad_unknown : (e : Example) → Contains (bads task) e → All IsUnknown (bad_row task e)
  unfolding boundaries
  bad_unknown e among =
      let own = bad_example task e among in
      let below = own.1 in
      let few = (is_few task is).few_accepted in
      listed_all IsUnknown (λ i. accepted task i e.category (rank task i e)) (criteria task) (λ i li.
      let r = accepted_range task i e.category (rank task i e) li (omega (arith, below)) (rank_is task i e own.0).0 in
      let high = r.1 in
      (r.0, omega (arith, high, few)))

module _ (task : Task) (u : Numbers) (are : AreNumbers task u) where
  abbrev first : ℕ
  first = accepted_count task + 1

  abbrev good_rows : List (List ℕ)
  good_rows = map (good_row task) (goods task)

  abbrev bad_rows : List (List ℕ)
  bad_rows = map (bad_row task) (bads task)

  pub variables_are : plain_variables u ≡ coalition_variables task
  unfolding set_count
  variables_are = ap (λ n. n + 2 ^ length u.counts) are.accepted_are ∙ ap (λ n. accepted_count task + 2 ^ n) (many task u are)

  sets_are : sets_of u ≡ larger_clauses task ++ (bad_set_clauses task ++ good_set_clauses task)
  sets_are =
      ap (λ x. larger_of_sets (x + 1) (length u.counts) ++ (bads_clauses (x + 1) u.bads ++ goods_clauses (x + 1) u.goods)) are.accepted_are
      ∙ ap (λ n. larger_of_sets first n ++ (bads_clauses first u.bads ++ goods_clauses first u.goods)) (many task u are)
      ∙ ap (λ rows. larger_of_sets first (criteria task) ++ (bads_clauses first rows ++ goods_clauses first u.goods)) are.bads_are
      ∙ ap (λ rows. larger_of_sets first (criteria task) ++ (bads_clauses first bad_rows ++ goods_clauses first rows)) are.goods_are
      ∙ ap (λ xs. xs ++ (bads_clauses first bad_rows ++ goods_clauses first good_rows)) (larger_is task)
      ∙ ap (λ xs. larger_clauses task ++ (xs ++ goods_clauses first good_rows)) (bads_are task)
      ∙ ap (λ xs. larger_clauses task ++ (bad_set_clauses task ++ xs)) (goods_are task)

  pub clauses_are : plain_clauses u ≡ coalition_clauses task
  clauses_are =
      ap (λ xs. xs ++ (lower_of u.boundaries u.counts u.firsts ++ sets_of u)) (better_is task u are)
      ∙ ap (λ xs. better_clauses task ++ (xs ++ sets_of u)) (lower_is task u are)
      ∙ ap (λ xs. better_clauses task ++ (lower_clauses task ++ xs)) sets_are

  -- all that the calls need
  pub record Needs : Type 0 where
    pub counts_small : length u.counts ≤ 12
    pub power_small : 2 ^ length u.counts ≤ 4096
    pub same : length u.firsts ≡ length u.counts
    pub accepted_small : u.accepted ≤ 33554576
    pub goods : All (λ row. length row ≡ length u.counts) u.goods
    pub good_unknowns : All (All IsUnknown) u.goods
    pub bads : All (λ row. length row ≡ length u.counts) u.bads
    pub bad_unknowns : All (All IsUnknown) u.bads
    pub all : CanTake (record { variables = plain_variables u; clauses = [] }) (plain_clauses u)
    pub small : AreSmall u.boundaries u.counts u.firsts

  pub needs : IsSmall task → Needs
  needs is =
      let m = many task u are in
      let few = is.few_criteria in
      let literals = is.few_literals in
      let twelve : length u.counts ≤ 12 = omega (arith, m, few) in
      let power : 2 ^ length u.counts ≤ 4096 = pow_mono twelve in
      let x = are.accepted_are in
      let accepted_small = (is_few task is).few_accepted in
      let clauses : length (plain_clauses u) ≡ coalition_clause_count task = ap length clauses_are ∙ length_coalitions task in
      let fewer = coalition_clauses_few task in
      let own : u.accepted ≤ 33554576 = omega (arith, x, accepted_small) in
      record {
        counts_small = twelve;
        power_small = power;
        same = same_many task u are;
        accepted_small = own;
        goods = subst (λ n. All (λ row. length row ≡ n) u.goods) (sym m) (good_widths task u are);
        good_unknowns = subst (All (All IsUnknown)) (sym are.goods_are) (All-map (All IsUnknown) (good_row task) (goods task) (λ k d lt. good_unknown task is (get_or (goods task) k d) (Contains-get_or (goods task) k d lt)));
        bads = subst (λ n. All (λ row. length row ≡ n) u.bads) (sym m) (bad_widths task u are);
        bad_unknowns = subst (All (All IsUnknown)) (sym are.bads_are) (All-map (All IsUnknown) (bad_row task) (bads task) (λ k d lt. bad_unknown task is (get_or (bads task) k d) (Contains-get_or (bads task) k d lt)));
        all = record {
          small = omega (arith, own, power);
          room = omega (arith, clauses, fewer, literals);
          range = subst (λ n. AreLiterals n (plain_clauses u)) (sym variables_are) (subst (AreLiterals (coalition_variables task)) (sym clauses_are) (coalitions_in_range task is.fits));
        };
        small = are_small task u are (is_few task is);
      }
