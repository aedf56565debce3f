-- The variables of the coalition formula are those that it counts, and few if it has few literals.
use Rattle.std.proofs.Common.{◌≡◌, ℕ, zero, suc, ◌+◌, ◌-◌, ◌*◌, ◌/◌, ◌^◌, ◌<◌, ◌≤◌, Bool, true, false, cond, List, [], ◌∷◌, ◌++◌, length, refl, sym, subst, arith}
use Rattle.std.specs.List.{All}
use Rattle.std.proofs.Math.Nat.{mul_assoc, mul-le-mul_left, pow-suc}
use Rattle.std.proofs.lemmas.List.Elements.{All-append, All-cons, All-nil}
use Rattle.literals_core.specs.Literal.{variable_of}
use Rattle.sorting_rule.specs.Examples.{Example}
use Rattle.literals_core.specs.Formula.{plus, minus, AreLiterals}
use Rattle.encoding_rules.specs.Each.{each, listed}
use Rattle.encoding_rules.specs.Task.{Task, IsTask, criteria, boundaries, goods, bads, good_at, bad_at}
use Rattle.encoding_rules.specs.Ranks.{count_at, rank}
use Rattle.encoding_rules.specs.Unknowns.{counted, accepted}
use Rattle.encoding_rules.specs.Shared.{better_clause, lower_clause, better_clauses, lower_clauses}
use Rattle.encoding_rules.specs.Separation.{steps}
use Rattle.encoding_rules.specs.Coalitions.{has, set_count, sufficient, larger_clause, larger_of, larger_clauses, members, bad_set_clause, good_set_clause, bad_set_clauses, good_set_clauses, coalition_variables, coalition_clauses, coalition_clause_count, coalition_literal_count}
use Rattle.encoding_rules.proofs.EachFacts.{each_all, listed_all}
use Rattle.encoding_rules.proofs.RangeFacts.{accepted_range, accepted_few, good_is, bad_is}
use Rattle.encoding_rules.proofs.TaskFacts.{rank_is}
use Rattle.encoding_rules.proofs.SetFacts.{grown_set}

module _ (task : Task) where
  abbrev n : ℕ
  n = criteria task

  abbrev IsVariable : ℕ → Type 0
  IsVariable v = (1 ≤ v) × (v ≤ coalition_variables task)

  abbrev IsLiteral : ℕ → Type 0
  IsLiteral l = (2 ≤ l) × (variable_of l ≤ coalition_variables task)

  abbrev AreAll : List ℕ → Type 0
  AreAll clause = All IsLiteral clause

  plus_is : (v : ℕ) → IsVariable v → IsLiteral (plus v)
  plus_is v (low, high) = let half : 2 * v / 2 ≡ v = omega arith in (omega (arith, low), subst (λ m. m ≤ coalition_variables task) (sym half) high)

  minus_is : (v : ℕ) → IsVariable v → IsLiteral (minus v)
  minus_is v (low, high) = let half : (2 * v + 1) / 2 ≡ v = omega arith in (omega (arith, low), subst (λ m. m ≤ coalition_variables task) (sym half) high)

  two_are : (l m : ℕ) → IsLiteral l → IsLiteral m → AreAll (l ∷ m ∷ [])
  two_are l m is_l is_m = All-cons IsLiteral l (m ∷ []) is_l (All-cons IsLiteral m [] is_m (All-nil IsLiteral))

  accepted_is : (i b k : ℕ) → i < n → b < boundaries task → k < count_at task i → IsVariable (accepted task i b k)
  accepted_is i b k li lb lk = let r = accepted_range task i b k li lb lk in let high = r.1 in (r.0, omega (arith, high))

  sufficient_is : (set : ℕ) → set < 2 ^ n → IsVariable (sufficient task set)
  unfolding sufficient set_count
  sufficient_is set lt = (omega arith, omega (arith, lt))

  better_are : All AreAll (better_clauses task)
  unfolding better_clauses
  better_are =
      each_all AreAll (λ i. each (λ b. listed (better_clause task i b) (count_at task i - 1)) (boundaries task)) n (λ i li.
      each_all AreAll (λ b. listed (better_clause task i b) (count_at task i - 1)) (boundaries task) (λ b lb.
      listed_all AreAll (better_clause task i b) (count_at task i - 1) (λ k lk.
      two_are (minus (accepted task i b k)) (plus (accepted task i b (k + 1)))
      (minus_is (accepted task i b k) (accepted_is i b k li lb (omega (arith, lk))))
      (plus_is (accepted task i b (k + 1)) (accepted_is i b (k + 1) li lb (omega (arith, lk)))))))

  lower_are : All AreAll (lower_clauses task)
  unfolding lower_clauses
  lower_are =
      each_all AreAll (λ i. each (λ b. listed (lower_clause task i b) (count_at task i)) (boundaries task - 1)) n (λ i li.
      each_all AreAll (λ b. listed (lower_clause task i b) (count_at task i)) (boundaries task - 1) (λ b lb.
      listed_all AreAll (lower_clause task i b) (count_at task i) (λ k lk.
      two_are (minus (accepted task i (b + 1) k)) (plus (accepted task i b k))
      (minus_is (accepted task i (b + 1) k) (accepted_is i (b + 1) k li (omega (arith, lb)) lk))
      (plus_is (accepted task i b k) (accepted_is i b k li (omega (arith, lb)) lk)))))

  larger_by : (set i : ℕ) (b : Bool) → has set i ≡ b → set < 2 ^ n → i < n → All AreAll (cond b [] (larger_clause task set i ∷ []))
  larger_by set i true e lt li = All-nil AreAll
  larger_by set i false e lt li = All-cons AreAll (larger_clause task set i) [] (two_are (minus (sufficient task set)) (plus (sufficient task (set + 2 ^ i)))
      (minus_is (sufficient task set) (sufficient_is set lt)) (plus_is (sufficient task (set + 2 ^ i)) (sufficient_is (set + 2 ^ i) (grown_set n set i lt li e).0))) (All-nil AreAll)

  larger_are : All AreAll (larger_clauses task)
  unfolding larger_clauses set_count
  larger_are =
      each_all AreAll (λ set. each (larger_of task set) n) (2 ^ n) (λ set lt.
      each_all AreAll (larger_of task set) n (λ i li. larger_by set i (has set i) refl lt li))

  one_if_member : (b : Bool) (l : ℕ) → IsLiteral l → AreAll (cond b (l ∷ []) [])
  one_if_member true l is = All-cons IsLiteral l [] is (All-nil IsLiteral)
  one_if_member false l is = All-nil IsLiteral

  members_are : (literal : ℕ → ℕ) (set last : ℕ) → ((i : ℕ) → i < n → IsLiteral (literal i)) → IsLiteral last → AreAll (members literal set n ++ last ∷ [])
  members_are literal set last all is = All-append IsLiteral (members literal set n) (last ∷ [])
      (each_all IsLiteral (λ i. cond (has set i) (literal i ∷ []) []) n (λ i li. one_if_member (has set i) (literal i) (all i li))) (All-cons IsLiteral last [] is (All-nil IsLiteral))

  module _ (fits : IsTask task) where
    bads_are : All AreAll (bad_set_clauses task)
    unfolding bad_set_clauses set_count
    bads_are =
        each_all AreAll (λ b. listed (bad_set_clause task b) (2 ^ n)) (length (bads task)) (λ b lb.
        listed_all AreAll (bad_set_clause task b) (2 ^ n) (λ set lt.
        (let e : Example = bad_at task b in
        let is = bad_is task fits b lb in
        members_are (λ i. minus (accepted task i e.category (rank task i e))) set (minus (sufficient task set))
        (λ i li. minus_is (accepted task i e.category (rank task i e)) (accepted_is i e.category (rank task i e) li is.1 (rank_is task i e is.0).0))
        (minus_is (sufficient task set) (sufficient_is set lt)))))

    goods_are : All AreAll (good_set_clauses task)
    unfolding good_set_clauses set_count
    goods_are =
        each_all AreAll (λ a. listed (good_set_clause task a) (2 ^ n)) (length (goods task)) (λ a la.
        listed_all AreAll (good_set_clause task a) (2 ^ n) (λ set lt.
        (let g : Example = good_at task a in
        let is = good_is task fits a la in
        members_are (λ i. plus (accepted task i (g.category - 1) (rank task i g))) set (plus (sufficient task (2 ^ n - 1 - set)))
        (λ i li. plus_is (accepted task i (g.category - 1) (rank task i g)) (accepted_is i (g.category - 1) (rank task i g) li is.1 (rank_is task i g is.0).0))
        (plus_is (sufficient task (2 ^ n - 1 - set)) (sufficient_is (2 ^ n - 1 - set) (omega (arith, lt)))))))

    pub coalitions_in_range : AreLiterals (coalition_variables task) (coalition_clauses task)
    coalitions_in_range =
        All-append AreAll (better_clauses task) (lower_clauses task ++ (larger_clauses task ++ (bad_set_clauses task ++ good_set_clauses task))) better_are
        (All-append AreAll (lower_clauses task) (larger_clauses task ++ (bad_set_clauses task ++ good_set_clauses task)) lower_are
        (All-append AreAll (larger_clauses task) (bad_set_clauses task ++ good_set_clauses task) larger_are
        (All-append AreAll (bad_set_clauses task) (good_set_clauses task) bads_are goods_are)))

  -- the formula has no more variables than literals, one for each criterion and boundary, and one for each set
  pub coalition_variables_few : coalition_variables task ≤ coalition_literal_count task + boundaries task * n + set_count task
  coalition_variables_few =
      let few = accepted_few task in
      let two : 2 * boundaries task * steps task ≡ 2 * (boundaries task * steps task) = mul_assoc 2 (boundaries task) (steps task) in
      omega (arith, few, two)

  half_le : (m : ℕ) → 2 ^ (m - 1) ≤ 2 ^ m
  half_le zero = omega arith
  half_le (suc m) =
      let double : 2 ^ suc m ≡ 2 ^ m * 2 = pow-suc 2 m in
      let less : suc m - 1 ≡ m = omega arith in
      subst (λ k. 2 ^ k ≤ 2 ^ suc m) (sym less) (omega (arith, double))

  pub coalition_clauses_few : coalition_clause_count task ≤ coalition_literal_count task
  unfolding set_count
  coalition_clauses_few =
      let gd : ℕ = length (goods task) + length (bads task) in
      let half : n * 2 ^ (n - 1) ≤ n * 2 ^ n = mul-le-mul_left n (half_le n) in
      let wide : gd * 2 ^ n ≤ gd * (n * 2 ^ (n - 1) + 2 ^ n) = mul-le-mul_left gd (let le : 2 ^ n ≤ n * 2 ^ (n - 1) + 2 ^ n = omega arith in le) in
      let two : 2 * boundaries task * steps task ≡ 2 * (boundaries task * steps task) = mul_assoc 2 (boundaries task) (steps task) in
      let lower : 2 * (boundaries task - 1) * counted task n ≡ 2 * ((boundaries task - 1) * counted task n) = mul_assoc 2 (boundaries task - 1) (counted task n) in
      omega (arith, half, wide, two, lower)
