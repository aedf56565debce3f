-- The clauses over given numbers are those of the task that has these numbers.
use Rattle.std.proofs.Common.{◌≡◌, ℕ, ◌+◌, ◌-◌, ◌*◌, [], ◌∷◌, ◌++◌, length, get_or, ap, ◌∙◌, arith}
use Rattle.std.proofs.Math.Nat.{add-mul, mul_assoc}
use Rattle.sorting_rule.specs.Examples.{Example}
use Rattle.literals_core.specs.Formula.{plus, minus}
use Rattle.encoding_rules.specs.Each.{each}
use Rattle.encoding_rules.specs.Task.{Task, criteria, goods, bads, good_at, bad_at}
use Rattle.encoding_rules.specs.Ranks.{rank}
use Rattle.encoding_rules.specs.Unknowns.{accepted, accepted_count, pair, separated}
use Rattle.encoding_rules.specs.Separation.{good_clause, bad_clause, pair_clauses, separated_clauses}
use Rattle.encoding_rules.proofs.EachFacts.{length-listed, listed_at, each_same, listed_same}
use Rattle.accepted_core.proofs.PlainFacts.{two, good_is, bad_is, many_goods, many_bads}
use Rattle.separation_core.specs.Plain.{both_of, some_of, pair_of, pairs_of_good, pairs_of}
use Rattle.accepted_core.specs.Numbers.{good_row, bad_row, Numbers, AreNumbers}

module _ (task : Task) (u : Numbers) (are : AreNumbers task u) where
  separated_place : (a b i : ℕ) → accepted_count task + 1 + a * (length (bads task) * criteria task) + b * criteria task + i ≡ separated task a b i
  unfolding separated pair
  separated_place a b i =
      let w : ℕ = length (bads task) in
      let n : ℕ = criteria task in
      let turn : (a * w + b) * n ≡ a * (w * n) + b * n = add-mul (a * w) b n ∙ ap (λ m. m + b * n) (mul_assoc a w n) in
      omega (arith, turn)

  pair_is : (a b : ℕ) → pair_of (accepted_count task + 1 + a * (length (bads task) * criteria task) + b * criteria task) (good_row task (good_at task a)) (bad_row task (bad_at task b)) ≡ pair_clauses task a b
  pair_is a b =
      let g : Example = good_at task a in
      let e : Example = bad_at task b in
      let n : ℕ = criteria task in
      let first : ℕ = accepted_count task + 1 + a * (length (bads task) * criteria task) + b * criteria task in
      let size : length (good_row task g) ≡ n = length-listed (λ i. accepted task i (g.category - 1) (rank task i g)) n in
      ap (λ m. each (both_of first (good_row task g) (bad_row task e)) m ++ some_of first m ∷ []) size
      ∙ ap (λ xs. xs ++ some_of first n ∷ []) (each_same (both_of first (good_row task g) (bad_row task e)) (λ i. good_clause task a b i ∷ bad_clause task a b i ∷ []) n (λ i li.
      let at : first + i ≡ separated task a b i = separated_place a b i in
      let x : get_or (good_row task g) i 0 ≡ accepted task i (g.category - 1) (rank task i g) = listed_at (λ i. accepted task i (g.category - 1) (rank task i g)) n i 0 li in
      let y : get_or (bad_row task e) i 0 ≡ accepted task i e.category (rank task i e) = listed_at (λ i. accepted task i e.category (rank task i e)) n i 0 li in
      ap (λ c. c ∷ (minus (first + i) ∷ minus (get_or (bad_row task e) i 0) ∷ []) ∷ []) (two minus plus (first + i) (get_or (good_row task g) i 0) (separated task a b i) (accepted task i (g.category - 1) (rank task i g)) at x)
      ∙ ap (λ c. good_clause task a b i ∷ c ∷ []) (two minus minus (first + i) (get_or (bad_row task e) i 0) (separated task a b i) (accepted task i e.category (rank task i e)) at y)))
      ∙ ap (λ c. each (λ i. good_clause task a b i ∷ bad_clause task a b i ∷ []) n ++ c ∷ []) (listed_same (λ i. plus (first + i)) (λ i. plus (separated task a b i)) n (λ i li. ap plus (separated_place a b i)))

  pub pairs_is : pairs_of (accepted_count task + 1) (criteria task) u.goods u.bads ≡ separated_clauses task
  unfolding separated_clauses
  pairs_is =
      let n : ℕ = criteria task in
      let d : ℕ = length (bads task) in
      let x : ℕ = accepted_count task + 1 in
      ap (λ m. each (λ a. pairs_of_good (x + a * (length u.bads * n)) n (get_or u.goods a []) u.bads) m) (many_goods task u are)
      ∙ each_same (λ a. pairs_of_good (x + a * (length u.bads * n)) n (get_or u.goods a []) u.bads) (λ a. each (pair_clauses task a) d) (length (goods task)) (λ a la.
      ap (λ m. pairs_of_good (x + a * (m * n)) n (get_or u.goods a []) u.bads) (many_bads task u are)
      ∙ ap (λ g. pairs_of_good (x + a * (d * n)) n g u.bads) (good_is task u are a la)
      ∙ ap (λ m. each (λ b. pair_of (x + a * (d * n) + b * n) (good_row task (good_at task a)) (get_or u.bads b [])) m) (many_bads task u are)
      ∙ each_same (λ b. pair_of (x + a * (d * n) + b * n) (good_row task (good_at task a)) (get_or u.bads b [])) (pair_clauses task a) d (λ b lb.
      ap (pair_of (x + a * (d * n) + b * n) (good_row task (good_at task a))) (bad_is task u are b lb) ∙ pair_is a b))
