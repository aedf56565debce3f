-- How many clauses and literals the coalition formula has.
use Rattle.std.proofs.Common.{◌≡◌, ℕ, zero, suc, ◌+◌, ◌-◌, ◌*◌, ◌^◌, ◌<◌, ◌==◌, Bool, true, false, cond, List, [], ◌∷◌, ◌++◌, length, refl, sym, ap, ◌∙◌, arith, add-one}
use Rattle.std.specs.Int.{bit_at}
use Rattle.std.proofs.Math.Nat.{mul_comm, mul-add, add-mul, mul_assoc, pow-suc}
use Rattle.std.proofs.lemmas.List.{length-append}
use Rattle.std.proofs.lemmas.Nat.Bits.{bit_at_above, bit_at_cat_low, bit_at_cat_high}
use Rattle.literals_core.specs.Formula.{plus, minus}
use Rattle.encoding_rules.specs.Each.{each, listed, total}
use Rattle.encoding_rules.specs.Task.{Task, criteria, goods, bads, good_at, bad_at}
use Rattle.encoding_rules.specs.Ranks.{rank}
use Rattle.encoding_rules.specs.Unknowns.{accepted}
use Rattle.encoding_rules.specs.Shared.{better_clauses, lower_clauses}
use Rattle.encoding_rules.specs.Coalitions.{has, set_count, sufficient, larger_clause, larger_of, larger_clauses, members, bad_set_clause, good_set_clause, bad_set_clauses, good_set_clauses, coalition_clauses, coalition_clause_count, coalition_literal_count}
use Rattle.encoding_rules.proofs.EachFacts.{length-each, length-listed, total_same, total_const, total_scale, total_add}
use Rattle.encoding_rules.proofs.SizeFacts.{literals, literals-append, literals_each, length_better, length_lower, literals_better, literals_lower}

-- ---- the members of all sets

abbrev one_if : Bool → ℕ
one_if b = cond b 1 0

-- how many of the first criteria a set has, and how many it doesn't have
abbrev pub ones : ℕ → ℕ → ℕ
ones n set = total (λ i. cond (has set i) 1 0) n

abbrev pub zeros : ℕ → ℕ → ℕ
zeros n set = total (λ i. cond (has set i) 0 1) n

total_split : (f : ℕ → ℕ) (a b : ℕ) → total f (a + b) ≡ total f a + total (λ k. f (a + k)) b
total_split f a zero = ap (total f) (let e : a + 0 ≡ a = omega arith in e) ∙ (let e : total f a ≡ total f a + 0 = omega arith in e)
total_split f a (suc b) =
    let next : a + suc b ≡ suc (a + b) = omega arith in
    let rest = total_split f a b in
    ap (total f) next ∙ (let e : total f (a + b) + f (a + b) ≡ total f a + (total (λ k. f (a + k)) b + f (a + b)) = omega (arith, rest) in e)

-- a set below 2^n doesn't have criterion n, and with it has the same of the first
has_not : (n set : ℕ) → set < 2 ^ n → has set n ≡ false
has_not n set lt = ap (λ b. b == 1) (bit_at_above set n n lt (omega arith))

has_last : (n set : ℕ) → set < 2 ^ n → has (2 ^ n + set) n ≡ true
has_last n set lt =
    let turn : 2 ^ n + set ≡ 1 * 2 ^ n + set = omega arith in
    let none : n - n ≡ 0 = omega arith in
    ap (λ s. has s n) turn ∙ ap (λ b. b == 1) (bit_at_cat_high 1 n set n lt (omega arith) ∙ ap (bit_at 1) none)

has_first : (n set i : ℕ) → i < n → has (2 ^ n + set) i ≡ has set i
has_first n set i lt =
    let turn : 2 ^ n + set ≡ 1 * 2 ^ n + set = omega arith in
    ap (λ s. has s i) turn ∙ ap (λ b. b == 1) (bit_at_cat_low 1 n set i lt)

-- half of the places are members
pub ones_half : (n : ℕ) → 2 * total (ones n) (2 ^ n) ≡ n * 2 ^ n
ones_half zero = refl
ones_half (suc n) =
    let p : ℕ = 2 ^ n in
    let rest = ones_half n in
    let double : 2 ^ suc n ≡ p + p = pow-suc 2 n ∙ (let e : p * 2 ≡ p + p = omega arith in e) in
    let low : total (ones (suc n)) p ≡ total (ones n) p = total_same (ones (suc n)) (ones n) p (λ set lt.
    let off : one_if (has set n) ≡ 0 = ap (λ b. cond b 1 0) (has_not n set lt) in omega (arith, off)) in
    let high : total (λ k. ones (suc n) (p + k)) p ≡ total (λ k. ones n k + 1) p = total_same (λ k. ones (suc n) (p + k)) (λ k. ones n k + 1) p (λ set lt.
    let on : one_if (has (p + set) n) ≡ 1 = ap (λ b. cond b 1 0) (has_last n set lt) in
    let same : ones n (p + set) ≡ ones n set = total_same (λ i. cond (has (p + set) i) 1 0) (λ i. cond (has set i) 1 0) n (λ i li. ap (λ b. cond b 1 0) (has_first n set i li)) in
    omega (arith, on, same)) in
    let parts : total (λ k. ones n k + 1) p ≡ total (ones n) p + p * 1 = total_add (ones n) (λ k. 1) p ∙ ap (λ m. total (ones n) p + m) (total_const 1 p) in
    let all : total (ones (suc n)) (2 ^ suc n) ≡ total (ones (suc n)) p + total (λ k. ones (suc n) (p + k)) p = ap (total (ones (suc n))) double ∙ total_split (ones (suc n)) p p in
    let wide : suc n * 2 ^ suc n ≡ n * (p + p) + (p + p) = ap (λ m. suc n * m) double ∙ (let e : suc n * (p + p) ≡ (n + 1) * (p + p) = ap (λ m. m * (p + p)) (sym (add-one n)) in e) ∙ add-mul n 1 (p + p) ∙ (let e : n * (p + p) + 1 * (p + p) ≡ n * (p + p) + (p + p) = omega arith in e) in
    let twice : n * (p + p) ≡ n * p + n * p = mul-add n p p in
    omega (arith, rest, low, high, parts, all, wide, twice)

half_of : (n t : ℕ) → 2 * t ≡ n * 2 ^ n → t ≡ n * 2 ^ (n - 1)
half_of zero t e = omega (arith, e)
half_of (suc m) t e =
    let double : 2 ^ suc m ≡ 2 ^ m * 2 = pow-suc 2 m in
    let wide : suc m * 2 ^ suc m ≡ suc m * 2 ^ m * 2 = ap (λ x. suc m * x) double ∙ sym (mul_assoc (suc m) (2 ^ m) 2) in
    let less : suc m - 1 ≡ m = omega arith in
    (let twice : t ≡ suc m * 2 ^ m = omega (arith, e, wide) in twice) ∙ ap (λ k. suc m * 2 ^ k) (sym less)

pub ones_all : (n : ℕ) → total (ones n) (2 ^ n) ≡ n * 2 ^ (n - 1)
ones_all n = half_of n (total (ones n) (2 ^ n)) (ones_half n)

one_or_other : (b : Bool) → cond b 0 1 + one_if b ≡ 1
one_or_other true = refl
one_or_other false = refl

pub zeros_half : (n : ℕ) → 2 * total (zeros n) (2 ^ n) ≡ n * 2 ^ n
zeros_half n =
    let p : ℕ = 2 ^ n in
    let each_set : (set : ℕ) → zeros n set + ones n set ≡ n = λ set.
    sym (total_add (λ i. cond (has set i) 0 1) (λ i. cond (has set i) 1 0) n) ∙ total_same (λ i. cond (has set i) 0 1 + cond (has set i) 1 0) (λ i. 1) n (λ i lt. one_or_other (has set i)) ∙ total_const 1 n ∙ (let e : n * 1 ≡ n = omega arith in e) in
    let all : total (zeros n) p + total (ones n) p ≡ p * n = sym (total_add (zeros n) (ones n) p) ∙ total_same (λ set. zeros n set + ones n set) (λ set. n) p (λ set lt. each_set set) ∙ total_const n p in
    let turn : p * n ≡ n * p = mul_comm p n in
    let half = ones_half n in
    omega (arith, all, turn, half)

pub zeros_all : (n : ℕ) → total (zeros n) (2 ^ n) ≡ n * 2 ^ (n - 1)
zeros_all n = half_of n (total (zeros n) (2 ^ n)) (zeros_half n)

-- ---- lengths

length_cond : {A : Type 0} (b : Bool) (x : A) → length (cond b [] (x ∷ [])) ≡ cond b 0 1
length_cond true x = refl
length_cond false x = refl

literals_cond : (b : Bool) (x : List ℕ) → length x ≡ 2 → literals (cond b [] (x ∷ [])) ≡ 2 * cond b 0 1
literals_cond true x e = refl
literals_cond false x e = omega (arith, e)

length_member : (b : Bool) (x : ℕ) → length (cond b (x ∷ []) []) ≡ cond b 1 0
length_member true x = refl
length_member false x = refl

length_members : (literal : ℕ → ℕ) (set n last : ℕ) → length (members literal set n ++ last ∷ []) ≡ ones n set + 1
length_members literal set n last =
    let all = length-append (members literal set n) (last ∷ []) in
    let own : length (members literal set n) ≡ ones n set = length-each (λ i. cond (has set i) (literal i ∷ []) []) n ∙ total_same (λ i. length (cond (has set i) (literal i ∷ []) [])) (λ i. cond (has set i) 1 0) n (λ i lt. length_member (has set i) (literal i)) in
    omega (arith, all, own)

-- rows of one clause a set
literals_sets : (f : ℕ → List ℕ) (n : ℕ) → ((set : ℕ) → length (f set) ≡ ones n set + 1) → literals (listed f (2 ^ n)) ≡ n * 2 ^ (n - 1) + 2 ^ n
literals_sets f n h =
    literals_each (λ k. f k ∷ []) (2 ^ n) ∙ total_same (λ k. literals (f k ∷ [])) (λ k. ones n k + 1) (2 ^ n) (λ k lt. let e = h k in omega (arith, e))
    ∙ total_add (ones n) (λ k. 1) (2 ^ n) ∙ (let a = ones_all n in let b = total_const 1 (2 ^ n) in let e : total (ones n) (2 ^ n) + total (λ k. 1) (2 ^ n) ≡ n * 2 ^ (n - 1) + 2 ^ n = omega (arith, a, b) in e)

module _ (task : Task) where
  abbrev n : ℕ
  n = criteria task

  length_larger : length (larger_clauses task) ≡ n * 2 ^ (n - 1)
  unfolding larger_clauses set_count
  length_larger =
      length-each (λ set. each (larger_of task set) n) (2 ^ n)
      ∙ total_same (λ set. length (each (larger_of task set) n)) (zeros n) (2 ^ n) (λ set lt.
      length-each (larger_of task set) n ∙ total_same (λ i. length (larger_of task set i)) (λ i. cond (has set i) 0 1) n (λ i li. length_cond (has set i) (larger_clause task set i)))
      ∙ zeros_all n

  literals_larger : literals (larger_clauses task) ≡ n * set_count task
  unfolding larger_clauses set_count
  literals_larger =
      literals_each (λ set. each (larger_of task set) n) (2 ^ n)
      ∙ total_same (λ set. literals (each (larger_of task set) n)) (λ set. 2 * zeros n set) (2 ^ n) (λ set lt.
      literals_each (larger_of task set) n ∙ total_same (λ i. literals (larger_of task set i)) (λ i. 2 * cond (has set i) 0 1) n (λ i li. literals_cond (has set i) (larger_clause task set i) refl)
      ∙ total_scale 2 (λ i. cond (has set i) 0 1) n)
      ∙ total_scale 2 (zeros n) (2 ^ n) ∙ zeros_half n

  length_bads : length (bad_set_clauses task) ≡ length (bads task) * set_count task
  unfolding bad_set_clauses
  length_bads = length-each (λ b. listed (bad_set_clause task b) (set_count task)) (length (bads task)) ∙ total_same (λ b. length (listed (bad_set_clause task b) (set_count task))) (λ b. set_count task) (length (bads task)) (λ b lb. length-listed (bad_set_clause task b) (set_count task))
      ∙ total_const (set_count task) (length (bads task))

  length_goods : length (good_set_clauses task) ≡ length (goods task) * set_count task
  unfolding good_set_clauses
  length_goods = length-each (λ a. listed (good_set_clause task a) (set_count task)) (length (goods task)) ∙ total_same (λ a. length (listed (good_set_clause task a) (set_count task))) (λ a. set_count task) (length (goods task)) (λ a la. length-listed (good_set_clause task a) (set_count task))
      ∙ total_const (set_count task) (length (goods task))

  literals_bads : literals (bad_set_clauses task) ≡ length (bads task) * (n * 2 ^ (n - 1) + set_count task)
  unfolding bad_set_clauses set_count
  literals_bads =
      let w : ℕ = n * 2 ^ (n - 1) + 2 ^ n in
      literals_each (λ b. listed (bad_set_clause task b) (2 ^ n)) (length (bads task))
      ∙ total_same (λ b. literals (listed (bad_set_clause task b) (2 ^ n))) (λ b. w) (length (bads task)) (λ b lb.
      literals_sets (bad_set_clause task b) n (λ set. length_members (λ i. minus (accepted task i (bad_at task b).category (rank task i (bad_at task b)))) set n (minus (sufficient task set))))
      ∙ total_const w (length (bads task))

  literals_goods : literals (good_set_clauses task) ≡ length (goods task) * (n * 2 ^ (n - 1) + set_count task)
  unfolding good_set_clauses set_count
  literals_goods =
      let w : ℕ = n * 2 ^ (n - 1) + 2 ^ n in
      literals_each (λ a. listed (good_set_clause task a) (2 ^ n)) (length (goods task))
      ∙ total_same (λ a. literals (listed (good_set_clause task a) (2 ^ n))) (λ a. w) (length (goods task)) (λ a la.
      literals_sets (good_set_clause task a) n (λ set. length_members (λ i. plus (accepted task i ((good_at task a).category - 1) (rank task i (good_at task a)))) set n (plus (sufficient task (2 ^ n - 1 - set)))))
      ∙ total_const w (length (goods task))

  abbrev rest3 : List (List ℕ)
  rest3 = bad_set_clauses task ++ good_set_clauses task

  abbrev rest2 : List (List ℕ)
  rest2 = larger_clauses task ++ rest3

  abbrev rest1 : List (List ℕ)
  rest1 = lower_clauses task ++ rest2

  pub length_coalitions : length (coalition_clauses task) ≡ coalition_clause_count task
  length_coalitions =
      let c1 = length-append (better_clauses task) rest1 in
      let c2 = length-append (lower_clauses task) rest2 in
      let c3 = length-append (larger_clauses task) rest3 in
      let c4 = length-append (bad_set_clauses task) (good_set_clauses task) in
      let a = length_better task in
      let b = length_lower task in
      let c = length_larger in
      let d = length_bads in
      let e = length_goods in
      let sum : (length (goods task) + length (bads task)) * set_count task ≡ length (goods task) * set_count task + length (bads task) * set_count task = add-mul (length (goods task)) (length (bads task)) (set_count task) in
      omega (arith, c1, c2, c3, c4, a, b, c, d, e, sum)

  pub literals_coalitions : literals (coalition_clauses task) ≡ coalition_literal_count task
  literals_coalitions =
      let c1 = literals-append (better_clauses task) rest1 in
      let c2 = literals-append (lower_clauses task) rest2 in
      let c3 = literals-append (larger_clauses task) rest3 in
      let c4 = literals-append (bad_set_clauses task) (good_set_clauses task) in
      let a = literals_better task in
      let b = literals_lower task in
      let c = literals_larger in
      let d = literals_bads in
      let e = literals_goods in
      let w : ℕ = n * 2 ^ (n - 1) + set_count task in
      let sum : (length (goods task) + length (bads task)) * w ≡ length (goods task) * w + length (bads task) * w = add-mul (length (goods task)) (length (bads task)) w in
      omega (arith, c1, c2, c3, c4, a, b, c, d, e, sum)
