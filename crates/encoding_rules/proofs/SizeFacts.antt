-- How many clauses and literals the separation formula has.
use Rattle.std.proofs.Common.{◌≡◌, ℕ, zero, suc, ◌+◌, ◌-◌, ◌*◌, List, [], ◌∷◌, ◌++◌, length, refl, sym, ap, ◌∙◌, arith}
use Rattle.std.specs.List.{sum_by}
use Rattle.std.proofs.Math.Nat.{mul_comm, mul_assoc}
use Rattle.std.proofs.lemmas.List.{length-append}
use Rattle.std.proofs.lemmas.List.Sums.{sum_by-append, sum_by-cons}
use Rattle.literals_core.specs.Formula.{plus}
use Rattle.encoding_rules.specs.Each.{each, listed, total}
use Rattle.encoding_rules.specs.Task.{Task, criteria, boundaries, goods, bads}
use Rattle.encoding_rules.specs.Ranks.{count_at}
use Rattle.encoding_rules.specs.Unknowns.{counted, separated}
use Rattle.encoding_rules.specs.Shared.{better_clause, lower_clause, better_clauses, lower_clauses}
use Rattle.encoding_rules.specs.Separation.{good_clause, bad_clause, some_clause, pair_clauses, separated_clauses, steps, separation_clauses, separation_clause_count, separation_literal_count}
use Rattle.encoding_rules.proofs.EachFacts.{length-each, length-listed, total_same, total_const, total_scale}

abbrev none : {A : Type 0} → List A
none = []

-- the literals of clauses
abbrev pub literals : List (List ℕ) → ℕ
literals clauses = sum_by length clauses

pub literals-append : (xs ys : List (List ℕ)) → literals (xs ++ ys) ≡ literals xs + literals ys
literals-append xs ys = sum_by-append length xs ys

pub literals_each : (f : ℕ → List (List ℕ)) (n : ℕ) → literals (each f n) ≡ total (λ k. literals (f k)) n
literals_each f zero = refl
literals_each f (suc n) = sum_by-append length (each f n) (f n) ∙ ap (λ m. m + sum_by length (f n)) (literals_each f n)

-- clauses of one length
literals_listed : (f : ℕ → List ℕ) (w n : ℕ) → ((k : ℕ) → length (f k) ≡ w) → literals (listed f n) ≡ n * w
literals_listed f w n h = literals_each (λ k. f k ∷ []) n ∙ total_same (λ k. sum_by length (f k ∷ [])) (λ k. w) n (λ k lt. let e = h k in omega (arith, e)) ∙ total_const w n

-- per criterion and boundary
grid : (g : ℕ → ℕ → ℕ) (c : ℕ → ℕ) (b n : ℕ) → ((i h : ℕ) → g i h ≡ c i) → total (λ i. total (g i) b) n ≡ b * total c n
grid g c b n h = total_same (λ i. total (g i) b) (λ i. b * c i) n (λ i lt. total_same (g i) (λ k. c i) b (λ k lk. h i k) ∙ total_const (c i) b) ∙ total_scale b c n

module _ (task : Task) where
  pub length_better : length (better_clauses task) ≡ boundaries task * steps task
  unfolding better_clauses steps
  length_better =
      length-each (λ i. each (λ b. listed (better_clause task i b) (count_at task i - 1)) (boundaries task)) (criteria task)
      ∙ total_same (λ i. length (each (λ b. listed (better_clause task i b) (count_at task i - 1)) (boundaries task))) (λ i. total (λ b. length (listed (better_clause task i b) (count_at task i - 1))) (boundaries task)) (criteria task)
      (λ i lt. length-each (λ b. listed (better_clause task i b) (count_at task i - 1)) (boundaries task))
      ∙ grid (λ i b. length (listed (better_clause task i b) (count_at task i - 1))) (λ i. count_at task i - 1) (boundaries task) (criteria task) (λ i b. length-listed (better_clause task i b) (count_at task i - 1))

  pub length_lower : length (lower_clauses task) ≡ (boundaries task - 1) * counted task (criteria task)
  unfolding lower_clauses counted
  length_lower =
      length-each (λ i. each (λ b. listed (lower_clause task i b) (count_at task i)) (boundaries task - 1)) (criteria task)
      ∙ total_same (λ i. length (each (λ b. listed (lower_clause task i b) (count_at task i)) (boundaries task - 1))) (λ i. total (λ b. length (listed (lower_clause task i b) (count_at task i))) (boundaries task - 1)) (criteria task)
      (λ i lt. length-each (λ b. listed (lower_clause task i b) (count_at task i)) (boundaries task - 1))
      ∙ grid (λ i b. length (listed (lower_clause task i b) (count_at task i))) (count_at task) (boundaries task - 1) (criteria task) (λ i b. length-listed (lower_clause task i b) (count_at task i))

  pub literals_better : literals (better_clauses task) ≡ 2 * boundaries task * steps task
  unfolding better_clauses steps
  literals_better =
      literals_each (λ i. each (λ b. listed (better_clause task i b) (count_at task i - 1)) (boundaries task)) (criteria task)
      ∙ total_same (λ i. literals (each (λ b. listed (better_clause task i b) (count_at task i - 1)) (boundaries task))) (λ i. total (λ b. literals (listed (better_clause task i b) (count_at task i - 1))) (boundaries task)) (criteria task)
      (λ i lt. literals_each (λ b. listed (better_clause task i b) (count_at task i - 1)) (boundaries task))
      ∙ grid (λ i b. literals (listed (better_clause task i b) (count_at task i - 1))) (λ i. 2 * (count_at task i - 1)) (boundaries task) (criteria task)
      (λ i b. literals_listed (better_clause task i b) 2 (count_at task i - 1) (λ k. refl) ∙ mul_comm (count_at task i - 1) 2)
      ∙ ap (λ m. boundaries task * m) (total_scale 2 (λ i. count_at task i - 1) (criteria task))
      ∙ sym (mul_assoc (boundaries task) 2 (total (λ i. count_at task i - 1) (criteria task)))
      ∙ ap (λ m. m * total (λ i. count_at task i - 1) (criteria task)) (mul_comm (boundaries task) 2)

  pub literals_lower : literals (lower_clauses task) ≡ 2 * (boundaries task - 1) * counted task (criteria task)
  unfolding lower_clauses counted
  literals_lower =
      literals_each (λ i. each (λ b. listed (lower_clause task i b) (count_at task i)) (boundaries task - 1)) (criteria task)
      ∙ total_same (λ i. literals (each (λ b. listed (lower_clause task i b) (count_at task i)) (boundaries task - 1))) (λ i. total (λ b. literals (listed (lower_clause task i b) (count_at task i))) (boundaries task - 1)) (criteria task)
      (λ i lt. literals_each (λ b. listed (lower_clause task i b) (count_at task i)) (boundaries task - 1))
      ∙ grid (λ i b. literals (listed (lower_clause task i b) (count_at task i))) (λ i. 2 * count_at task i) (boundaries task - 1) (criteria task)
      (λ i b. literals_listed (lower_clause task i b) 2 (count_at task i) (λ k. refl) ∙ mul_comm (count_at task i) 2)
      ∙ ap (λ m. (boundaries task - 1) * m) (total_scale 2 (count_at task) (criteria task))
      ∙ sym (mul_assoc (boundaries task - 1) 2 (total (count_at task) (criteria task)))
      ∙ ap (λ m. m * total (count_at task) (criteria task)) (mul_comm (boundaries task - 1) 2)

  abbrev both_clauses : ℕ → ℕ → ℕ → List (List ℕ)
  both_clauses a b i = good_clause task a b i ∷ bad_clause task a b i ∷ []

  length_pair : (a b : ℕ) → length (pair_clauses task a b) ≡ 2 * criteria task + 1
  length_pair a b =
      let firsts : length (each (both_clauses a b) (criteria task)) ≡ criteria task * 2 = length-each (both_clauses a b) (criteria task) ∙ total_const 2 (criteria task) in
      let all = length-append (each (both_clauses a b) (criteria task)) (some_clause task a b ∷ []) in
      omega (arith, firsts, all)

  literals_pair : (a b : ℕ) → literals (pair_clauses task a b) ≡ 5 * criteria task
  literals_pair a b =
      let firsts : literals (each (both_clauses a b) (criteria task)) ≡ criteria task * 4 = literals_each (both_clauses a b) (criteria task) ∙ total_const 4 (criteria task) in
      let last : length (some_clause task a b) ≡ criteria task = length-listed (λ i. plus (separated task a b i)) (criteria task) in
      let all = sum_by-append length (each (both_clauses a b) (criteria task)) (some_clause task a b ∷ []) in
      let one : sum_by length (some_clause task a b ∷ []) ≡ length (some_clause task a b) + sum_by length (none {A = List ℕ}) = sum_by-cons length (some_clause task a b) [] in
      omega (arith, firsts, last, all, one)

  length_separated : length (separated_clauses task) ≡ length (goods task) * length (bads task) * (2 * criteria task + 1)
  unfolding separated_clauses
  length_separated =
      let w : ℕ = 2 * criteria task + 1 in
      let d : ℕ = length (bads task) in
      length-each (λ a. each (pair_clauses task a) d) (length (goods task))
      ∙ total_same (λ a. length (each (pair_clauses task a) d)) (λ a. d * w) (length (goods task)) (λ a la. length-each (pair_clauses task a) d ∙ total_same (λ b. length (pair_clauses task a b)) (λ b. w) d (λ b lb. length_pair a b) ∙ total_const w d)
      ∙ total_const (d * w) (length (goods task)) ∙ sym (mul_assoc (length (goods task)) d w)

  literals_separated : literals (separated_clauses task) ≡ length (goods task) * length (bads task) * (5 * criteria task)
  unfolding separated_clauses
  literals_separated =
      let w : ℕ = 5 * criteria task in
      let d : ℕ = length (bads task) in
      literals_each (λ a. each (pair_clauses task a) d) (length (goods task))
      ∙ total_same (λ a. literals (each (pair_clauses task a) d)) (λ a. d * w) (length (goods task)) (λ a la. literals_each (pair_clauses task a) d ∙ total_same (λ b. literals (pair_clauses task a b)) (λ b. w) d (λ b lb. literals_pair a b) ∙ total_const w d)
      ∙ total_const (d * w) (length (goods task)) ∙ sym (mul_assoc (length (goods task)) d w)

  pub length_separation : length (separation_clauses task) ≡ separation_clause_count task
  length_separation =
      let all = length-append (better_clauses task) (lower_clauses task ++ separated_clauses task) in
      let rest = length-append (lower_clauses task) (separated_clauses task) in
      let a = length_better in
      let b = length_lower in
      let c = length_separated in
      omega (arith, all, rest, a, b, c)

  pub literals_separation : literals (separation_clauses task) ≡ separation_literal_count task
  literals_separation =
      let all = literals-append (better_clauses task) (lower_clauses task ++ separated_clauses task) in
      let rest = literals-append (lower_clauses task) (separated_clauses task) in
      let a = literals_better in
      let b = literals_lower in
      let c = literals_separated in
      let turn : length (goods task) * length (bads task) * (5 * criteria task) ≡ 5 * criteria task * length (goods task) * length (bads task) =
      mul_comm (length (goods task) * length (bads task)) (5 * criteria task) ∙ sym (mul_assoc (5 * criteria task) (length (goods task)) (length (bads task))) in
      omega (arith, all, rest, a, b, c, turn)
