-- The variables of the formula are those that it counts, and few if it has few literals.
use Rattle.std.proofs.Common.{◌≡◌, ℕ, ◌+◌, ◌-◌, ◌*◌, ◌/◌, ◌<◌, ◌≤◌, List, [], ◌∷◌, ◌++◌, length, sym, ap, ◌∙◌, subst, arith}
use Rattle.std.specs.List.{All, Contains}
use Rattle.std.proofs.Math.Nat.{mul_comm, mul-add, mul_assoc, mul-le-mul_left}
use Rattle.std.proofs.lemmas.Nat.{mul-add-lt}
use Rattle.std.proofs.lemmas.List.Elements.{All-append, All-cons, All-nil, All-contains, Contains-get_or}
use Rattle.literals_core.specs.Literal.{variable_of}
use Rattle.sorting_rule.specs.Examples.{Example}
use Rattle.literals_core.specs.Formula.{plus, minus, AreLiterals}
use Rattle.encoding_rules.specs.Each.{each, listed, total}
use Rattle.encoding_rules.specs.Task.{Task, IsTask, criteria, boundaries, goods, bads, good_at, bad_at, nobody}
use Rattle.encoding_rules.specs.Ranks.{count_at, rank}
use Rattle.encoding_rules.specs.Unknowns.{counted, accepted, accepted_count, pair, separated, separated_count}
use Rattle.encoding_rules.specs.Shared.{better_clause, lower_clause, better_clauses, lower_clauses}
use Rattle.encoding_rules.specs.Separation.{good_clause, bad_clause, some_clause, pair_clauses, separated_clauses, steps, separation_variables, separation_clauses, separation_clause_count, separation_literal_count}
use Rattle.encoding_rules.proofs.EachFacts.{each_all, listed_all, total_before, total_le, total_add, total_const}
use Rattle.encoding_rules.proofs.TaskFacts.{good_example, bad_example, rank_is}

module _ (task : Task) where
  -- an unknown of what is accepted is one of those
  pub accepted_range : (i b k : ℕ) → i < criteria task → b < boundaries task → k < count_at task i → (1 ≤ accepted task i b k) × (accepted task i b k ≤ accepted_count task)
  unfolding accepted accepted_count counted
  accepted_range i b k li lb lk =
      let before = total_before (count_at task) (criteria task) i li in
      let scaled : boundaries task * (total (count_at task) i + count_at task i) ≤ boundaries task * total (count_at task) (criteria task) = mul-le-mul_left (boundaries task) before in
      let parts : boundaries task * (total (count_at task) i + count_at task i) ≡ boundaries task * total (count_at task) i + boundaries task * count_at task i = mul-add (boundaries task) (total (count_at task) i) (count_at task i) in
      let inner : b * count_at task i + k < count_at task i * boundaries task = mul-add-lt b (count_at task i) k (boundaries task) lb lk in
      let turn : count_at task i * boundaries task ≡ boundaries task * count_at task i = mul_comm (count_at task i) (boundaries task) in
      (omega arith, omega (arith, scaled, parts, inner, turn))

  pub separated_range : (a b i : ℕ) → a < length (goods task) → b < length (bads task) → i < criteria task → (1 ≤ separated task a b i) × (separated task a b i ≤ separation_variables task)
  unfolding separated pair separated_count
  separated_range a b i la lb li =
      let d : ℕ = length (bads task) in
      let n : ℕ = criteria task in
      let pairs : a * d + b < d * length (goods task) = mul-add-lt a d b (length (goods task)) la lb in
      let turn : d * length (goods task) ≡ length (goods task) * d = mul_comm d (length (goods task)) in
      let pairs' : a * d + b < length (goods task) * d = omega (arith, pairs, turn) in
      let all : (a * d + b) * n + i < n * (length (goods task) * d) = mul-add-lt (a * d + b) n i (length (goods task) * d) pairs' li in
      let turned : n * (length (goods task) * d) ≡ length (goods task) * d * n = mul_comm n (length (goods task) * d) in
      (omega arith, omega (arith, all, turned))

  abbrev IsLiteral : ℕ → Type 0
  IsLiteral l = (2 ≤ l) × (variable_of l ≤ separation_variables task)

  abbrev AreAll : List ℕ → Type 0
  AreAll clause = All IsLiteral clause

  plus_is : (v : ℕ) → (1 ≤ v) × (v ≤ separation_variables task) → IsLiteral (plus v)
  plus_is v (low, high) = let half : 2 * v / 2 ≡ v = omega arith in (omega (arith, low), subst (λ m. m ≤ separation_variables task) (sym half) high)

  minus_is : (v : ℕ) → (1 ≤ v) × (v ≤ separation_variables task) → IsLiteral (minus v)
  minus_is v (low, high) = let half : (2 * v + 1) / 2 ≡ v = omega arith in (omega (arith, low), subst (λ m. m ≤ separation_variables task) (sym half) high)

  two_are : (l m : ℕ) → IsLiteral l → IsLiteral m → AreAll (l ∷ m ∷ [])
  two_are l m is_l is_m = All-cons IsLiteral l (m ∷ []) is_l (All-cons IsLiteral m [] is_m (All-nil IsLiteral))

  accepted_is : (i b k : ℕ) → i < criteria task → b < boundaries task → k < count_at task i → (1 ≤ accepted task i b k) × (accepted task i b k ≤ separation_variables task)
  accepted_is i b k li lb lk = let r = accepted_range i b k li lb lk in let high = r.1 in (r.0, omega (arith, high))

  better_are : All AreAll (better_clauses task)
  unfolding better_clauses
  better_are =
      each_all AreAll (λ i. each (λ b. listed (better_clause task i b) (count_at task i - 1)) (boundaries task)) (criteria task) (λ i li.
      each_all AreAll (λ b. listed (better_clause task i b) (count_at task i - 1)) (boundaries task) (λ b lb.
      listed_all AreAll (better_clause task i b) (count_at task i - 1) (λ k lk.
      two_are (minus (accepted task i b k)) (plus (accepted task i b (k + 1)))
      (minus_is (accepted task i b k) (accepted_is i b k li lb (omega (arith, lk))))
      (plus_is (accepted task i b (k + 1)) (accepted_is i b (k + 1) li lb (omega (arith, lk)))))))

  lower_are : All AreAll (lower_clauses task)
  unfolding lower_clauses
  lower_are =
      each_all AreAll (λ i. each (λ b. listed (lower_clause task i b) (count_at task i)) (boundaries task - 1)) (criteria task) (λ i li.
      each_all AreAll (λ b. listed (lower_clause task i b) (count_at task i)) (boundaries task - 1) (λ b lb.
      listed_all AreAll (lower_clause task i b) (count_at task i) (λ k lk.
      two_are (minus (accepted task i (b + 1) k)) (plus (accepted task i b k))
      (minus_is (accepted task i (b + 1) k) (accepted_is i (b + 1) k li (omega (arith, lb)) lk))
      (plus_is (accepted task i b k) (accepted_is i b k li (omega (arith, lb)) lk)))))

  module _ (fits : IsTask task) where
    -- the boundaries of the examples of a pair
    pub good_is : (a : ℕ) → a < length (goods task) → let g = good_at task a in Contains task.examples g × (g.category - 1 < boundaries task) × (1 ≤ g.category)
    unfolding good_at boundaries
    good_is a la =
        let is = good_example task (good_at task a) (Contains-get_or (goods task) a nobody la) in
        let le = is.1 in
        let below = All-contains (λ e. e.category < task.categories) task.examples (good_at task a) fits.categories is.0 in
        (is.0, omega (arith, below, le), le)

    pub bad_is : (b : ℕ) → b < length (bads task) → let e = bad_at task b in Contains task.examples e × (e.category < boundaries task)
    unfolding bad_at boundaries
    bad_is b lb =
        let is = bad_example task (bad_at task b) (Contains-get_or (bads task) b nobody lb) in
        let below = is.1 in
        (is.0, omega (arith, below))

    pair_are : (a b : ℕ) → a < length (goods task) → b < length (bads task) → All AreAll (pair_clauses task a b)
    pair_are a b la lb =
        let g : Example = good_at task a in
        let e : Example = bad_at task b in
        let is_g = good_is a la in
        let is_e = bad_is b lb in
        let firsts : ℕ → List (List ℕ) = λ i. good_clause task a b i ∷ bad_clause task a b i ∷ [] in
        All-append AreAll (each firsts (criteria task)) (some_clause task a b ∷ [])
        (each_all AreAll firsts (criteria task) (λ i li.
        let s = separated_range a b i la lb li in
        All-cons AreAll (good_clause task a b i) (bad_clause task a b i ∷ [])
        (two_are (minus (separated task a b i)) (plus (accepted task i (g.category - 1) (rank task i g))) (minus_is (separated task a b i) s)
        (plus_is (accepted task i (g.category - 1) (rank task i g)) (accepted_is i (g.category - 1) (rank task i g) li is_g.1 (rank_is task i g is_g.0).0)))
        (All-cons AreAll (bad_clause task a b i) []
        (two_are (minus (separated task a b i)) (minus (accepted task i e.category (rank task i e))) (minus_is (separated task a b i) s)
        (minus_is (accepted task i e.category (rank task i e)) (accepted_is i e.category (rank task i e) li is_e.1 (rank_is task i e is_e.0).0)))
        (All-nil AreAll))))
        (All-cons AreAll (some_clause task a b) [] (listed_all IsLiteral (λ i. plus (separated task a b i)) (criteria task) (λ i li. plus_is (separated task a b i) (separated_range a b i la lb li))) (All-nil AreAll))

    separated_are : All AreAll (separated_clauses task)
    unfolding separated_clauses
    separated_are =
        each_all AreAll (λ a. each (pair_clauses task a) (length (bads task))) (length (goods task)) (λ a la.
        each_all AreAll (pair_clauses task a) (length (bads task)) (λ b lb. pair_are a b la lb))

    pub separation_in_range : AreLiterals (separation_variables task) (separation_clauses task)
    separation_in_range = All-append AreAll (better_clauses task) (lower_clauses task ++ separated_clauses task) better_are
        (All-append AreAll (lower_clauses task) (separated_clauses task) lower_are separated_are)

  -- each criterion has at most one grade more than steps between grades
  pub counted_few : counted task (criteria task) ≤ steps task + criteria task
  unfolding counted steps
  counted_few =
      let le = total_le (count_at task) (λ i. count_at task i - 1 + 1) (criteria task) (λ i lt. omega arith) in
      let sum = total_add (λ i. count_at task i - 1) (λ i. 1) (criteria task) in
      let ones = total_const 1 (criteria task) in
      omega (arith, le, sum, ones)

  pub accepted_few : accepted_count task ≤ boundaries task * steps task + boundaries task * criteria task
  unfolding accepted_count
  accepted_few =
      let few = mul-le-mul_left (boundaries task) counted_few in
      let parts = mul-add (boundaries task) (steps task) (criteria task) in
      omega (arith, few, parts)

  -- the formula has no more variables than literals, and one for each criterion and boundary
  pub variables_few : separation_variables task ≤ separation_literal_count task + boundaries task * criteria task
  unfolding separated_count
  variables_few =
      let few = accepted_few in
      let two : 2 * boundaries task * steps task ≡ 2 * (boundaries task * steps task) = mul_assoc 2 (boundaries task) (steps task) in
      let gd : ℕ = length (goods task) * length (bads task) in
      let five : 5 * criteria task * length (goods task) * length (bads task) ≡ 5 * (gd * criteria task) =
      mul_assoc (5 * criteria task) (length (goods task)) (length (bads task)) ∙ mul_assoc 5 (criteria task) gd ∙ ap (λ m. 5 * m) (mul_comm (criteria task) gd) in
      omega (arith, few, two, five)

  -- and no more clauses than literals
  pub clauses_few : 1 ≤ criteria task → separation_clause_count task ≤ separation_literal_count task
  clauses_few some =
      let gd : ℕ = length (goods task) * length (bads task) in
      let width : 2 * criteria task + 1 ≤ 5 * criteria task = omega (arith, some) in
      let pairs : gd * (2 * criteria task + 1) ≤ gd * (5 * criteria task) = mul-le-mul_left gd width in
      let five : 5 * criteria task * length (goods task) * length (bads task) ≡ gd * (5 * criteria task) =
      mul_assoc (5 * criteria task) (length (goods task)) (length (bads task)) ∙ mul_comm (5 * criteria task) gd in
      let two : 2 * boundaries task * steps task ≡ 2 * (boundaries task * steps task) = mul_assoc 2 (boundaries task) (steps task) in
      let lower : 2 * (boundaries task - 1) * counted task (criteria task) ≡ 2 * ((boundaries task - 1) * counted task (criteria task)) = mul_assoc 2 (boundaries task - 1) (counted task (criteria task)) in
      omega (arith, pairs, five, two, lower)
