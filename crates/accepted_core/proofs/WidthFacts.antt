-- How many rows of unknowns there are, and how wide they are.
use Rattle.std.proofs.Common.{◌≡◌, ℕ, ◌+◌, ◌-◌, ◌*◌, ◌<◌, ◌≤◌, List, length, get_or, sym, ap, ◌∙◌, subst, arith}
use Rattle.std.specs.List.{All}
use Rattle.std.specs.Prelude.{nat_le, nat_lt}
use Rattle.std.proofs.Math.Nat.{mul-add, mul-le-mul_left}
use Rattle.std.proofs.lemmas.List.Elements.{All-map}
use Rattle.std.proofs.lemmas.List.Sums.{length-filter, count_by-le-length}
use Rattle.sorting_rule.specs.Examples.{Example}
use Rattle.encoding_rules.specs.Each.{total}
use Rattle.encoding_rules.specs.Task.{Task, criteria, boundaries, goods, bads}
use Rattle.encoding_rules.specs.Ranks.{count_at, rank}
use Rattle.encoding_rules.specs.Unknowns.{counted, accepted, accepted_count}
use Rattle.encoding_rules.proofs.EachFacts.{length-listed, total_before}
use Rattle.accepted_core.specs.Takes.{AreSmall}
use Rattle.accepted_core.specs.Numbers.{Numbers, AreNumbers, good_row, bad_row}
use Rattle.accepted_core.specs.Small.{IsFew}
use Rattle.accepted_core.proofs.PlainFacts.{many, count_is, first_is}

module _ (task : Task) (u : Numbers) (are : AreNumbers task u) where
  pub good_widths : All (λ good. length good ≡ criteria task) u.goods
  good_widths = subst (All (λ good. length good ≡ criteria task)) (sym are.goods_are)
      (All-map (λ (good : List ℕ). length good ≡ criteria task) (good_row task) (goods task) (λ k d lt. length-listed (λ i. accepted task i ((get_or (goods task) k d).category - 1) (rank task i (get_or (goods task) k d))) (criteria task)))

  pub bad_widths : All (λ bad. length bad ≡ criteria task) u.bads
  bad_widths = subst (All (λ bad. length bad ≡ criteria task)) (sym are.bads_are)
      (All-map (λ (bad : List ℕ). length bad ≡ criteria task) (bad_row task) (bads task) (λ k d lt. length-listed (λ i. accepted task i (get_or (bads task) k d).category (rank task i (get_or (bads task) k d))) (criteria task)))

  pub few_goods : length (goods task) ≤ length task.examples
  unfolding goods
  few_goods = let e = length-filter (λ (e : Example). nat_le 1 e.category) task.examples in let le = count_by-le-length (λ (e : Example). nat_le 1 e.category) task.examples in omega (arith, e, le)

  pub few_bads : length (bads task) ≤ length task.examples
  unfolding bads
  few_bads = let e = length-filter (λ (e : Example). nat_lt (e.category + 1) task.categories) task.examples in let le = count_by-le-length (λ (e : Example). nat_lt (e.category + 1) task.categories) task.examples in omega (arith, e, le)

  -- a first unknown for each criterion
  pub same_many : length u.firsts ≡ length u.counts
  same_many = ap length are.firsts_are ∙ length-listed (λ i. accepted task i 0 0) (criteria task) ∙ sym (many task u are)

  -- the unknowns of each criterion are numbers that a formula can have
  pub are_small : IsFew task → AreSmall u.boundaries u.counts u.firsts
  unfolding accepted accepted_count counted
  are_small is i lt =
      let m = many task u are in
      let li : i < criteria task = omega (arith, lt, m) in
      let f = first_is task u are i li in
      let k = count_is task u are i li in
      let b = are.boundaries_are in
      let at : boundaries task * get_or u.counts i 0 ≡ boundaries task * count_at task i = ap (λ n. boundaries task * n) k in
      let by : u.boundaries * get_or u.counts i 0 ≡ boundaries task * get_or u.counts i 0 = ap (λ n. n * get_or u.counts i 0) b in
      let before = total_before (count_at task) (criteria task) i li in
      let scaled : boundaries task * (total (count_at task) i + count_at task i) ≤ boundaries task * total (count_at task) (criteria task) = mul-le-mul_left (boundaries task) before in
      let parts : boundaries task * (total (count_at task) i + count_at task i) ≡ boundaries task * total (count_at task) i + boundaries task * count_at task i = mul-add (boundaries task) (total (count_at task) i) (count_at task i) in
      let few = is.few_accepted in
      omega (arith, f, at, by, scaled, parts, few)
