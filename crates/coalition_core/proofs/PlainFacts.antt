-- The clauses over given numbers are those of the task that has these numbers.
use Rattle.std.proofs.Common.{◌≡◌, ℕ, ◌+◌, ◌-◌, ◌^◌, ◌<◌, cond, List, [], ◌∷◌, ◌++◌, length, get_or, map, refl, ap, ◌∙◌, arith}
use Rattle.std.proofs.lemmas.List.{length-map, get_or-map}
use Rattle.sorting_rule.specs.Examples.{Example}
use Rattle.literals_core.specs.Formula.{plus, minus}
use Rattle.encoding_rules.specs.Each.{each, listed}
use Rattle.encoding_rules.specs.Task.{Task, criteria, goods, bads, good_at, bad_at, nobody}
use Rattle.encoding_rules.specs.Ranks.{rank}
use Rattle.encoding_rules.specs.Unknowns.{accepted, accepted_count}
use Rattle.encoding_rules.specs.Coalitions.{has, set_count, sufficient, larger_clauses, members, bad_set_clause, good_set_clause, bad_set_clauses, good_set_clauses}
use Rattle.encoding_rules.proofs.EachFacts.{length-listed, listed_at, each_same, listed_same}
use Rattle.coalition_core.specs.Plain.{larger_of_sets, set_clause, bad_clauses, good_clauses, bads_clauses, goods_clauses}
use Rattle.accepted_core.specs.Numbers.{good_row, bad_row}

module _ (task : Task) where
  abbrev n : ℕ
  n = criteria task

  abbrev first : ℕ
  first = accepted_count task + 1

  pub larger_is : larger_of_sets first n ≡ larger_clauses task
  unfolding larger_clauses set_count sufficient
  larger_is = refl

  -- a clause by a row of literals
  clause_is : (sign : ℕ → ℕ) (f : ℕ → ℕ) (set last : ℕ) → set_clause (map sign (listed f n)) set last ≡ members (λ i. sign (f i)) set n ++ last ∷ []
  clause_is sign f set last =
      let row : List ℕ = map sign (listed f n) in
      let size : length row ≡ n = length-map (listed f n) sign ∙ length-listed f n in
      ap (λ m. each (λ i. cond (has set i) (get_or row i 0 ∷ []) []) m ++ last ∷ []) size
      ∙ ap (λ xs. xs ++ last ∷ []) (each_same (λ i. cond (has set i) (get_or row i 0 ∷ []) []) (λ i. cond (has set i) (sign (f i) ∷ []) []) n (λ i li.
      ap (λ x. cond (has set i) (x ∷ []) []) (get_or-map sign (listed f n) i 0 0 (inside i li) ∙ ap sign (listed_at f n i 0 li))))
    where
      inside : (i : ℕ) → i < n → i < length (listed f n)
      inside i li = let size = length-listed f n in omega (arith, li, size)

  row_size : (sign : ℕ → ℕ) (f : ℕ → ℕ) → length (map sign (listed f n)) ≡ n
  row_size sign f = length-map (listed f n) sign ∙ length-listed f n

  bad_is : (b : ℕ) → bad_clauses first (map minus (bad_row task (bad_at task b))) ≡ listed (bad_set_clause task b) (set_count task)
  unfolding set_count sufficient
  bad_is b =
      let e : Example = bad_at task b in
      let f : ℕ → ℕ = λ i. accepted task i e.category (rank task i e) in
      let row : List ℕ = map minus (listed f n) in
      ap (λ m. listed (λ set. set_clause row set (minus (first + set))) (2 ^ m)) (row_size minus f)
      ∙ listed_same (λ set. set_clause row set (minus (first + set))) (bad_set_clause task b) (2 ^ n) (λ set lt. clause_is minus f set (minus (first + set)))

  good_is : (a : ℕ) → good_clauses first (map plus (good_row task (good_at task a))) ≡ listed (good_set_clause task a) (set_count task)
  unfolding set_count sufficient
  good_is a =
      let g : Example = good_at task a in
      let f : ℕ → ℕ = λ i. accepted task i (g.category - 1) (rank task i g) in
      let row : List ℕ = map plus (listed f n) in
      ap (λ m. listed (λ set. set_clause row set (plus (first + (2 ^ m - 1 - set)))) (2 ^ m)) (row_size plus f)
      ∙ listed_same (λ set. set_clause row set (plus (first + (2 ^ n - 1 - set)))) (good_set_clause task a) (2 ^ n) (λ set lt. clause_is plus f set (plus (first + (2 ^ n - 1 - set))))

  pub bads_are : bads_clauses first (map (bad_row task) (bads task)) ≡ bad_set_clauses task
  unfolding bad_set_clauses bad_at
  bads_are =
      ap (each (λ b. bad_clauses first (map minus (get_or (map (bad_row task) (bads task)) b [])))) (length-map (bads task) (bad_row task))
      ∙ each_same (λ b. bad_clauses first (map minus (get_or (map (bad_row task) (bads task)) b []))) (λ b. listed (bad_set_clause task b) (set_count task)) (length (bads task)) (λ b lb.
      ap (λ row. bad_clauses first (map minus row)) (get_or-map (bad_row task) (bads task) b nobody [] lb) ∙ bad_is b)

  pub goods_are : goods_clauses first (map (good_row task) (goods task)) ≡ good_set_clauses task
  unfolding good_set_clauses good_at
  goods_are =
      ap (each (λ a. good_clauses first (map plus (get_or (map (good_row task) (goods task)) a [])))) (length-map (goods task) (good_row task))
      ∙ each_same (λ a. good_clauses first (map plus (get_or (map (good_row task) (goods task)) a []))) (λ a. listed (good_set_clause task a) (set_count task)) (length (goods task)) (λ a la.
      ap (λ row. good_clauses first (map plus row)) (get_or-map (good_row task) (goods task) a nobody [] la) ∙ good_is a)
