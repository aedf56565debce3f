-- What a small task's formula needs.
use Rattle.std.proofs.Common.{◌≡◌, ◌+◌, ◌*◌, ◌≤◌, [], ◌++◌, length, sym, ap, ◌∙◌, subst, arith}
use Rattle.std.specs.List.{All}
use Rattle.std.proofs.Math.Nat.{mul-le-mul_left, mul-le-mul_right}
use Rattle.literals_core.specs.Formula.{AreLiterals}
use Rattle.encoding_rules.specs.Task.{Task, criteria, boundaries, goods, bads}
use Rattle.encoding_rules.specs.Unknowns.{counted, accepted, accepted_count, separated_count}
use Rattle.encoding_rules.specs.Shared.{better_clauses, lower_clauses}
use Rattle.encoding_rules.specs.Separation.{separation_variables, separation_clauses, separation_clause_count}
use Rattle.encoding_rules.proofs.SizeFacts.{length_separation}
use Rattle.encoding_rules.proofs.RangeFacts.{separation_in_range, variables_few, clauses_few}
use Rattle.accepted_core.specs.Takes.{CanTake, AreSmall}
use Rattle.accepted_core.specs.Small.{IsFew}
use Rattle.accepted_core.proofs.PlainFacts.{many, many_goods, many_bads, better_is, lower_is}
use Rattle.accepted_core.proofs.WidthFacts.{good_widths, bad_widths, few_goods, few_bads, same_many, are_small}
use Rattle.accepted_core.specs.Numbers.{Numbers, AreNumbers}
use Rattle.separation_core.specs.Formula.{IsSmall, plain_clauses, plain_variables}
use Rattle.accepted_core.specs.Plain.{lower_of}
use Rattle.separation_core.specs.Plain.{pairs_of}
use Rattle.separation_core.proofs.PlainFacts.{pairs_is}

-- a task whose formula is small has few unknowns
pub is_few : (task : Task) → IsSmall task → IsFew task
is_few task is =
    let some = is.some_criteria in
    let few = is.few_criteria in
    let literals = is.few_literals in
    let bound = variables_few task in
    let area : boundaries task * criteria task ≤ 9 * criteria task = mul-le-mul_right (criteria task) is.few_boundaries in
    record { fits = is.fits; some_criteria = some; few_criteria = few; few_boundaries = is.few_boundaries; few_examples = is.few_examples; few_accepted = omega (arith, bound, area, few, literals) }

module _ (task : Task) (u : Numbers) (are : AreNumbers task u) where
  pub variables_are : plain_variables u ≡ separation_variables task
  unfolding separated_count
  variables_are =
      ap (λ n. n + length u.goods * length u.bads * length u.counts) are.accepted_are
      ∙ ap (λ g. accepted_count task + g * length u.bads * length u.counts) (many_goods task u are)
      ∙ ap (λ b. accepted_count task + length (goods task) * b * length u.counts) (many_bads task u are)
      ∙ ap (λ n. accepted_count task + length (goods task) * length (bads task) * n) (many task u are)

  pub clauses_are : plain_clauses u ≡ separation_clauses task
  clauses_are =
      ap (λ xs. xs ++ (lower_of u.boundaries u.counts u.firsts ++ pairs_of (u.accepted + 1) (length u.counts) u.goods u.bads)) (better_is task u are)
      ∙ ap (λ xs. better_clauses task ++ (xs ++ pairs_of (u.accepted + 1) (length u.counts) u.goods u.bads)) (lower_is task u are)
      ∙ ap (λ x. better_clauses task ++ (lower_clauses task ++ pairs_of (x + 1) (length u.counts) u.goods u.bads)) are.accepted_are
      ∙ ap (λ n. better_clauses task ++ (lower_clauses task ++ pairs_of (accepted_count task + 1) n u.goods u.bads)) (many task u are)
      ∙ ap (λ xs. better_clauses task ++ (lower_clauses task ++ xs)) (pairs_is task u are)

  -- all that the calls need
  pub record Needs : Type 0 where
    pub counts : length u.counts ≡ criteria task
    pub counts_small : length u.counts ≤ 16
    pub some : 1 ≤ length u.counts
    pub same : length u.firsts ≡ length u.counts
    pub variables : plain_variables u ≤ 33554576
    pub accepted_small : u.accepted ≤ 33554576
    pub goods_few : length u.goods ≤ 4000000000
    pub bads_few : length u.bads ≤ 4000000000
    pub products : length u.goods * length u.bads ≤ length u.goods * length u.bads * length u.counts
    pub goods : All (λ good. length good ≡ length u.counts) u.goods
    pub bads : All (λ bad. length bad ≡ length u.counts) u.bads
    pub all : CanTake (record { variables = plain_variables u; clauses = [] }) (plain_clauses u)
    pub small : AreSmall u.boundaries u.counts u.firsts

  pub needs : IsSmall task → Needs
  unfolding accepted accepted_count counted
  needs is =
      let m = many task u are in
      let some = is.some_criteria in
      let few = is.few_criteria in
      let literals = is.few_literals in
      let bound = variables_few task in
      let area : boundaries task * criteria task ≤ 9 * criteria task = mul-le-mul_right (criteria task) is.few_boundaries in
      let same_variables = variables_are in
      let vars : plain_variables u ≤ 33554576 = omega (arith, same_variables, bound, area, few, literals) in
      let gs = many_goods task u are in
      let bs = many_bads task u are in
      let fg = few_goods task u are in
      let fb = few_bads task u are in
      let fe = is.few_examples in
      let width : (length u.goods * length u.bads) * 1 ≤ (length u.goods * length u.bads) * length u.counts = mul-le-mul_left (length u.goods * length u.bads) (omega (arith, some, m)) in
      let clauses : length (plain_clauses u) ≡ separation_clause_count task = ap length clauses_are ∙ length_separation task in
      let fewer = clauses_few task some in
      record {
        counts = m;
        counts_small = omega (arith, m, few);
        some = omega (arith, m, some);
        same = same_many task u are;
        variables = vars;
        accepted_small = omega (arith, vars);
        goods_few = omega (arith, gs, fg, fe);
        bads_few = omega (arith, bs, fb, fe);
        products = omega (arith, width);
        goods = subst (λ n. All (λ good. length good ≡ n) u.goods) (sym m) (good_widths task u are);
        bads = subst (λ n. All (λ bad. length bad ≡ n) u.bads) (sym m) (bad_widths task u are);
        all = record {
          small = omega (arith, vars);
          room = omega (arith, clauses, fewer, literals);
          range = subst (λ n. AreLiterals n (plain_clauses u)) (sym variables_are) (subst (AreLiterals (separation_variables task)) (sym clauses_are) (separation_in_range task is.fits));
        };
        small = are_small task u are (is_few task is);
      }
