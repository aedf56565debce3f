-- The literals of each clause of a formula are of distinct variables.
use Rattle.std.proofs.Common.{◌≡◌, ◌≢◌, ℕ, zero, suc, ◌+◌, ◌-◌, ◌*◌, ◌^◌, ◌<◌, ◌≤◌, Bool, true, false, cond, List, [], ◌∷◌, ◌++◌, length, sym, ap, ◌∙◌, subst, arith, inl, inr}
use Rattle.std.specs.List.{All, Contains}
use Rattle.std.proofs.Math.Nat.{mul_comm, mul-add, add-mul, mul-le-mul_left, pow-suc}
use Rattle.std.proofs.lemmas.Bool.{cases_lt}
use Rattle.std.proofs.lemmas.Nat.{mul-add-lt}
use Rattle.std.proofs.lemmas.List.{length-append, get_or_append_left, get_or_at, append-nil}
use Rattle.std.proofs.lemmas.List.Elements.{All-append, All-cons, All-nil}
use Rattle.literals_core.specs.Literal.{variable_of}
use Rattle.literals_core.specs.DistinctVariables.{HasDistinctVariables}
use Rattle.sorting_rule.specs.Examples.{Example}
use Rattle.literals_core.specs.Formula.{plus, minus}
use Rattle.encoding_rules.specs.Each.{each, listed, total}
use Rattle.encoding_rules.specs.Task.{Task, IsTask, criteria, boundaries, goods, bads, good_at, bad_at}
use Rattle.encoding_rules.specs.Ranks.{count_at, rank}
use Rattle.encoding_rules.specs.Unknowns.{counted, accepted, accepted_count, separated}
use Rattle.encoding_rules.specs.Shared.{better_clause, lower_clause, better_clauses, lower_clauses}
use Rattle.encoding_rules.specs.Separation.{good_clause, bad_clause, some_clause, pair_clauses, separated_clauses, separation_clauses}
use Rattle.encoding_rules.specs.Coalitions.{has, set_count, sufficient, larger_clause, larger_of, larger_clauses, members, bad_set_clause, good_set_clause, bad_set_clauses, good_set_clauses, coalition_clauses}
use Rattle.encoding_rules.specs.Encodings.{clauses_of}
use Rattle.literals_core.specs.declared.encoding.Encoding.{Encoding}
use Rattle.literals_core.specs.declared.encoding.Encoding.TheVariants.{Separation, Coalitions}
use Rattle.encoding_rules.proofs.EachFacts.{each_all, listed_all, total_before}
use Rattle.encoding_rules.proofs.RangeFacts.{accepted_range, good_is, bad_is}
use Rattle.encoding_rules.proofs.TaskFacts.{rank_is}

-- ---- lists of literals

abbrev IsOther : ℕ → ℕ → Type 0
IsOther l x = variable_of x ≢ variable_of l

apart_nil : HasDistinctVariables []
apart_nil i j before lj same = absurd (omega (arith, lj))

-- one more literal of another variable
apart_more : (xs : List ℕ) (l : ℕ) → HasDistinctVariables xs → All (IsOther l) xs → HasDistinctVariables (xs ++ l ∷ [])
apart_more xs l apart others i j before lj same =
    let n = length-append xs (l ∷ []) in
    elim (cases_lt j (length xs)) [
      | inl inside ↦
          (let i_in : i < length xs = omega (arith, before, inside) in
          apart i j before inside (sym (ap variable_of (get_or_append_left xs (l ∷ []) 0 i i_in)) ∙ same ∙ ap variable_of (get_or_append_left xs (l ∷ []) 0 j inside)))
      | inr last ↦
          (let i_in : i < length xs = omega (arith, before, lj, n) in
          others i 0 i_in (sym (ap variable_of (get_or_append_left xs (l ∷ []) 0 i i_in)) ∙ same ∙ ap variable_of (get_or_at xs l [] 0 j (omega (arith, lj, n, last)))))
    ]

two_apart : (l m : ℕ) → variable_of l ≢ variable_of m → HasDistinctVariables (l ∷ m ∷ [])
two_apart l m differ = apart_more (l ∷ []) m (apart_more [] l apart_nil (All-nil (IsOther l))) (All-cons (IsOther m) l [] differ (All-nil (IsOther m)))

-- those of the literals of distinct variables that are taken
others_by : (b : Bool) (l m : ℕ) → variable_of l ≢ variable_of m → All (IsOther m) (cond b (l ∷ []) [])
others_by true l m differ = All-cons (IsOther m) l [] differ (All-nil (IsOther m))
others_by false l m differ = All-nil (IsOther m)

others_of : (taken : ℕ → Bool) (literal : ℕ → ℕ) (n m : ℕ) → ((i : ℕ) → i < n → variable_of (literal i) ≢ variable_of m) → All (IsOther m) (each (λ i. cond (taken i) (literal i ∷ []) []) n)
others_of taken literal n m differ = each_all (IsOther m) (λ i. cond (taken i) (literal i ∷ []) []) n (λ i li. others_by (taken i) (literal i) m (differ i li))

more_by : (b : Bool) (xs : List ℕ) (l : ℕ) → HasDistinctVariables xs → All (IsOther l) xs → HasDistinctVariables (xs ++ cond b (l ∷ []) [])
more_by true xs l apart others = apart_more xs l apart others
more_by false xs l apart others = subst HasDistinctVariables (sym (append-nil xs)) apart

taken_apart : (taken : ℕ → Bool) (literal : ℕ → ℕ) (n : ℕ) → ((i j : ℕ) → i < j → j < n → variable_of (literal i) ≢ variable_of (literal j)) → HasDistinctVariables (each (λ i. cond (taken i) (literal i ∷ []) []) n)
taken_apart taken literal zero differ = apart_nil
taken_apart taken literal (suc n) differ =
    more_by (taken n) (each (λ i. cond (taken i) (literal i ∷ []) []) n) (literal n)
    (taken_apart taken literal n (λ i j before lj. differ i j before (omega (arith, lj))))
    (others_of taken literal n (literal n) (λ i li. differ i n li (omega arith)))

-- ---- literals of variables

half_plus : (v : ℕ) → variable_of (plus v) ≡ v
half_plus v = omega arith

half_minus : (v : ℕ) → variable_of (minus v) ≡ v
half_minus v = omega arith

minus_plus : (v w : ℕ) → v ≢ w → variable_of (minus v) ≢ variable_of (plus w)
minus_plus v w differ same = differ (sym (half_minus v) ∙ same ∙ half_plus w)

minus_minus : (v w : ℕ) → v ≢ w → variable_of (minus v) ≢ variable_of (minus w)
minus_minus v w differ same = differ (sym (half_minus v) ∙ same ∙ half_minus w)

plus_plus : (v w : ℕ) → v ≢ w → variable_of (plus v) ≢ variable_of (plus w)
plus_plus v w differ same = differ (sym (half_plus v) ∙ same ∙ half_plus w)

less : (v w : ℕ) → v < w → v ≢ w
less v w lt same = omega (arith, lt, same)

more : (v w : ℕ) → w < v → v ≢ w
more v w lt same = omega (arith, lt, same)

pow_some : (k : ℕ) → 1 ≤ 2 ^ k
pow_some zero = omega arith
pow_some (suc k) = let e = pow-suc 2 k in let rest = pow_some k in omega (arith, e, rest)

module _ (task : Task) where
  abbrev n : ℕ
  n = criteria task

  -- ---- unknowns that differ

  next_grade : (i b k : ℕ) → accepted task i b k < accepted task i b (k + 1)
  unfolding accepted
  next_grade i b k = omega arith

  next_boundary : (i b k : ℕ) → k < count_at task i → accepted task i b k < accepted task i (b + 1) k
  unfolding accepted
  next_boundary i b k lk =
      let wide : (b + 1) * count_at task i ≡ b * count_at task i + 1 * count_at task i = add-mul b 1 (count_at task i) in
      omega (arith, wide, lk)

  next_criterion : (i j b c k m : ℕ) → i < j → b < boundaries task → k < count_at task i → accepted task i b k < accepted task j c m
  unfolding accepted counted
  next_criterion i j b c k m before lb lk =
      let sums = total_before (count_at task) j i before in
      let scaled : boundaries task * (total (count_at task) i + count_at task i) ≤ boundaries task * total (count_at task) j = mul-le-mul_left (boundaries task) sums in
      let parts : boundaries task * (total (count_at task) i + count_at task i) ≡ boundaries task * total (count_at task) i + boundaries task * count_at task i = mul-add (boundaries task) (total (count_at task) i) (count_at task i) in
      let inner : b * count_at task i + k < count_at task i * boundaries task = mul-add-lt b (count_at task i) k (boundaries task) lb lk in
      let turn : count_at task i * boundaries task ≡ boundaries task * count_at task i = mul_comm (count_at task i) (boundaries task) in
      omega (arith, scaled, parts, inner, turn)

  above_accepted : (a b i : ℕ) → accepted_count task < separated task a b i
  unfolding separated
  above_accepted a b i = omega arith

  next_separated : (a b i j : ℕ) → i < j → separated task a b i < separated task a b j
  unfolding separated
  next_separated a b i j before = omega (arith, before)

  above_sets : (set : ℕ) → accepted_count task < sufficient task set
  unfolding sufficient
  above_sets set = omega arith

  larger_set : (set i : ℕ) → sufficient task set < sufficient task (set + 2 ^ i)
  unfolding sufficient
  larger_set set i = let some = pow_some i in omega (arith, some)

  accepted_below : (i b k v : ℕ) → i < n → b < boundaries task → k < count_at task i → accepted_count task < v → accepted task i b k < v
  accepted_below i b k v li lb lk above = let high = (accepted_range task i b k li lb lk).1 in omega (arith, high, above)

  -- ---- the clauses

  better_apart : All HasDistinctVariables (better_clauses task)
  unfolding better_clauses
  better_apart =
      each_all HasDistinctVariables (λ i. each (λ b. listed (better_clause task i b) (count_at task i - 1)) (boundaries task)) n (λ i li.
      each_all HasDistinctVariables (λ b. listed (better_clause task i b) (count_at task i - 1)) (boundaries task) (λ b lb.
      listed_all HasDistinctVariables (better_clause task i b) (count_at task i - 1) (λ k lk.
      two_apart (minus (accepted task i b k)) (plus (accepted task i b (k + 1)))
      (minus_plus (accepted task i b k) (accepted task i b (k + 1)) (less (accepted task i b k) (accepted task i b (k + 1)) (next_grade i b k))))))

  lower_apart : All HasDistinctVariables (lower_clauses task)
  unfolding lower_clauses
  lower_apart =
      each_all HasDistinctVariables (λ i. each (λ b. listed (lower_clause task i b) (count_at task i)) (boundaries task - 1)) n (λ i li.
      each_all HasDistinctVariables (λ b. listed (lower_clause task i b) (count_at task i)) (boundaries task - 1) (λ b lb.
      listed_all HasDistinctVariables (lower_clause task i b) (count_at task i) (λ k lk.
      two_apart (minus (accepted task i (b + 1) k)) (plus (accepted task i b k))
      (minus_plus (accepted task i (b + 1) k) (accepted task i b k) (more (accepted task i (b + 1) k) (accepted task i b k) (next_boundary i b k lk))))))

  larger_by : (set i : ℕ) (b : Bool) → All HasDistinctVariables (cond b [] (larger_clause task set i ∷ []))
  larger_by set i true = All-nil HasDistinctVariables
  larger_by set i false = All-cons HasDistinctVariables (larger_clause task set i) [] (two_apart (minus (sufficient task set)) (plus (sufficient task (set + 2 ^ i)))
      (minus_plus (sufficient task set) (sufficient task (set + 2 ^ i)) (less (sufficient task set) (sufficient task (set + 2 ^ i)) (larger_set set i)))) (All-nil HasDistinctVariables)

  larger_apart : All HasDistinctVariables (larger_clauses task)
  unfolding larger_clauses
  larger_apart =
      each_all HasDistinctVariables (λ set. each (larger_of task set) n) (set_count task) (λ set lt.
      each_all HasDistinctVariables (larger_of task set) n (λ i li. larger_by set i (has set i)))

  members_apart : (literal : ℕ → ℕ) (set last : ℕ) → ((i j : ℕ) → i < j → j < n → variable_of (literal i) ≢ variable_of (literal j)) → ((i : ℕ) → i < n → variable_of (literal i) ≢ variable_of last)
      → HasDistinctVariables (members literal set n ++ last ∷ [])
  members_apart literal set last differ other = apart_more (members literal set n) last (taken_apart (has set) literal n differ) (others_of (has set) literal n last other)

  module _ (fits : IsTask task) where
    -- the unknowns of an example's row
    module _ (e : Example) (place : ℕ) (among : Contains task.examples e) (lb : place < boundaries task) where
      abbrev at : ℕ → ℕ
      at i = accepted task i place (rank task i e)

      at_rises : (i j : ℕ) → i < j → at i < at j
      at_rises i j before = next_criterion i j place place (rank task i e) (rank task j e) before lb (rank_is task i e among).0

      at_below : (i v : ℕ) → i < n → accepted_count task < v → at i < v
      at_below i v li above = accepted_below i place (rank task i e) v li lb (rank_is task i e among).0 above

    pair_apart : (a b : ℕ) → a < length (goods task) → b < length (bads task) → All HasDistinctVariables (pair_clauses task a b)
    pair_apart a b la lb =
        let g : Example = good_at task a in
        let e : Example = bad_at task b in
        let is_g = good_is task fits a la in
        let is_e = bad_is task fits b lb in
        let firsts : ℕ → List (List ℕ) = λ i. good_clause task a b i ∷ bad_clause task a b i ∷ [] in
        All-append HasDistinctVariables (each firsts n) (some_clause task a b ∷ [])
        (each_all HasDistinctVariables firsts n (λ i li.
        let s : ℕ = separated task a b i in
        let x : ℕ = accepted task i (g.category - 1) (rank task i g) in
        let y : ℕ = accepted task i e.category (rank task i e) in
        All-cons HasDistinctVariables (good_clause task a b i) (bad_clause task a b i ∷ [])
        (two_apart (minus s) (plus x) (minus_plus s x (more s x (at_below g (g.category - 1) is_g.0 is_g.1 i s li (above_accepted a b i)))))
        (All-cons HasDistinctVariables (bad_clause task a b i) []
        (two_apart (minus s) (minus y) (minus_minus s y (more s y (at_below e e.category is_e.0 is_e.1 i s li (above_accepted a b i)))))
        (All-nil HasDistinctVariables))))
        (All-cons HasDistinctVariables (some_clause task a b) []
        (taken_apart (λ i. true) (λ i. plus (separated task a b i)) n (λ i j before lj.
        plus_plus (separated task a b i) (separated task a b j) (less (separated task a b i) (separated task a b j) (next_separated a b i j before))))
        (All-nil HasDistinctVariables))

    separated_apart : All HasDistinctVariables (separated_clauses task)
    unfolding separated_clauses
    separated_apart =
        each_all HasDistinctVariables (λ a. each (pair_clauses task a) (length (bads task))) (length (goods task)) (λ a la.
        each_all HasDistinctVariables (pair_clauses task a) (length (bads task)) (λ b lb. pair_apart a b la lb))

    separation_apart : All HasDistinctVariables (separation_clauses task)
    separation_apart = All-append HasDistinctVariables (better_clauses task) (lower_clauses task ++ separated_clauses task) better_apart
        (All-append HasDistinctVariables (lower_clauses task) (separated_clauses task) lower_apart separated_apart)

    bads_apart : All HasDistinctVariables (bad_set_clauses task)
    unfolding bad_set_clauses
    bads_apart =
        each_all HasDistinctVariables (λ b. listed (bad_set_clause task b) (set_count task)) (length (bads task)) (λ b lb.
        listed_all HasDistinctVariables (bad_set_clause task b) (set_count task) (λ set lt.
        (let e : Example = bad_at task b in
        let is = bad_is task fits b lb in
        let x : ℕ → ℕ = λ i. accepted task i e.category (rank task i e) in
        members_apart (λ i. minus (accepted task i e.category (rank task i e))) set (minus (sufficient task set))
        (λ i j before lj. minus_minus (x i) (x j) (less (x i) (x j) (at_rises e e.category is.0 is.1 i j before)))
        (λ i li. minus_minus (x i) (sufficient task set) (less (x i) (sufficient task set) (at_below e e.category is.0 is.1 i (sufficient task set) li (above_sets set)))))))

    goods_apart : All HasDistinctVariables (good_set_clauses task)
    unfolding good_set_clauses
    goods_apart =
        each_all HasDistinctVariables (λ a. listed (good_set_clause task a) (set_count task)) (length (goods task)) (λ a la.
        listed_all HasDistinctVariables (good_set_clause task a) (set_count task) (λ set lt.
        (let g : Example = good_at task a in
        let is = good_is task fits a la in
        let x : ℕ → ℕ = λ i. accepted task i (g.category - 1) (rank task i g) in
        let rest : ℕ = set_count task - 1 - set in
        members_apart (λ i. plus (accepted task i (g.category - 1) (rank task i g))) set (plus (sufficient task rest))
        (λ i j before lj. plus_plus (x i) (x j) (less (x i) (x j) (at_rises g (g.category - 1) is.0 is.1 i j before)))
        (λ i li. plus_plus (x i) (sufficient task rest) (less (x i) (sufficient task rest) (at_below g (g.category - 1) is.0 is.1 i (sufficient task rest) li (above_sets rest)))))))

    coalitions_apart : All HasDistinctVariables (coalition_clauses task)
    coalitions_apart =
        All-append HasDistinctVariables (better_clauses task) (lower_clauses task ++ (larger_clauses task ++ (bad_set_clauses task ++ good_set_clauses task))) better_apart
        (All-append HasDistinctVariables (lower_clauses task) (larger_clauses task ++ (bad_set_clauses task ++ good_set_clauses task)) lower_apart
        (All-append HasDistinctVariables (larger_clauses task) (bad_set_clauses task ++ good_set_clauses task) larger_apart
        (All-append HasDistinctVariables (bad_set_clauses task) (good_set_clauses task) bads_apart goods_apart)))

pub all_apart : (encoding : Encoding) (task : Task) → IsTask task → All HasDistinctVariables (clauses_of encoding task)
all_apart Separation task fits = separation_apart task fits
all_apart Coalitions task fits = coalitions_apart task fits
