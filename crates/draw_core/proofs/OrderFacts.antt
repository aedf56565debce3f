-- Numbers that are put in order.
use Rattle.std.proofs.Common.{◌≡◌, ℕ, zero, suc, ◌<◌, ◌≤◌, true, List, [], ◌∷◌, length, map, get_or, Some, refl, ap, inl, inr, arith}
use Rattle.std.specs.Prelude.{nat_le}
use Rattle.std.specs.List.{All, insert}
use Rattle.std.proofs.lemmas.Bool.{cases_Bool, and_from, le-leb, lt-leb, leb-true, leb-false}
use Rattle.std.proofs.lemmas.List.Elements.{All-cons, All-head, All-nil, All-tail}
use Rattle.problem_core.specs.Grade.{direction_of}
use Rattle.problem_core.specs.declared.criterion.Scale.{Scale}
use Rattle.sorting_rule.specs.Preference.{are_ordered, are_ordered_after}
use Rattle.draw_core.specs.Choice.{chosen}
use Rattle.draw_core.specs.DrawnModel.{put_in, rising_values}
use Rattle.draw_core.proofs.GradeFacts.{chosen-better}

-- the place where a number is put
pub put-insert : (x : ℕ) (ys : List ℕ) (k : ℕ) → k ≤ length ys → ((j : ℕ) → j < k → get_or ys j 0 < x) → (k < length ys → x ≤ get_or ys k 0) → put_in x ys ≡ insert ys k x
put-insert x [] zero le below above = refl
put-insert x [] (suc k) le below above = absurd (omega (arith, le))
put-insert x (y ∷ ys) zero le below above = rw (le-leb x y (above (omega arith))) refl
put-insert x (y ∷ ys) (suc k) le below above =
    rw (lt-leb x y (below zero (omega arith)))
    (ap (λ t. y ∷ t) (put-insert x ys k (omega (arith, le)) (λ j lt. below (suc j) (omega (arith, lt))) (λ lt. above (omega (arith, lt)))))

length-put_in : (x : ℕ) (ys : List ℕ) → length (put_in x ys) ≡ suc (length ys)
length-put_in x [] = refl
length-put_in x (y ∷ ys) = elim (cases_Bool (nat_le x y)) [
  | inl a ↦ rw a refl
  | inr b ↦ rw b (ap (λ n. suc n) (length-put_in x ys))
]

pub length-rising : (f : ℕ → ℕ) (n : ℕ) → length (rising_values f n) ≡ n
length-rising f zero = refl
length-rising f (suc n) = let one = length-put_in (f n) (rising_values f n) in let rest = length-rising f n in omega (arith, one, rest)

-- what each number meets, each meets in order
module _ (P : ℕ → Type 0) where
  all-put_in : (x : ℕ) (ys : List ℕ) → P x → All P ys → All P (put_in x ys)
  all-put_in x [] px h = All-cons P x [] px h
  all-put_in x (y ∷ ys) px h = elim (cases_Bool (nat_le x y)) [
    | inl a ↦ rw a (All-cons P x (y ∷ ys) px h)
    | inr b ↦ rw b (All-cons P y (put_in x ys) (All-head P y ys h) (all-put_in x ys px (All-tail P y ys h)))
  ]

  pub all-rising : (f : ℕ → ℕ) (n : ℕ) → ((k : ℕ) → P (f k)) → All P (rising_values f n)
  all-rising f zero h = All-nil P
  all-rising f (suc n) h = all-put_in (f n) (rising_values f n) (h n) (all-rising f n h)

-- numbers that do not fall, from a first one on
abbrev RiseAfter : ℕ → List ℕ → Type 0
RiseAfter x [] = Unit {0}
RiseAfter x (y ∷ ys) = (x ≤ y) × RiseAfter y ys

abbrev Rise : List ℕ → Type 0
Rise [] = Unit {0}
Rise (x ∷ xs) = RiseAfter x xs

put-after : (first x : ℕ) (ys : List ℕ) → first ≤ x → RiseAfter first ys → RiseAfter first (put_in x ys)
put-after first x [] le h = (le, tt)
put-after first x (y ∷ ys) le h = elim (cases_Bool (nat_le x y)) [
  | inl a ↦ rw a (le, (leb-true x y a, h.1))
  | inr b ↦ (let past = leb-false x y b in rw b (h.0, put-after y x ys (omega (arith, past)) h.1))
]

put-rises : (x : ℕ) (ys : List ℕ) → Rise ys → Rise (put_in x ys)
put-rises x [] h = tt
put-rises x (y ∷ ys) h = elim (cases_Bool (nat_le x y)) [
  | inl a ↦ rw a (leb-true x y a, h)
  | inr b ↦ (let past = leb-false x y b in rw b (put-after y x ys (omega (arith, past)) h))
]

rising-rises : (f : ℕ → ℕ) (n : ℕ) → Rise (rising_values f n)
rising-rises f zero = tt
rising-rises f (suc n) = put-rises (f n) (rising_values f n) (rising-rises f n)

-- the thresholds of choices that do not fall are ordered
module _ (scale : Scale) where
  ordered-after : (c : ℕ) (cs : List ℕ) → RiseAfter c cs → are_ordered_after (direction_of scale) (Some (chosen scale c)) (map (λ d. Some (chosen scale d)) cs) ≡ true
  ordered-after c [] h = refl
  ordered-after c (d ∷ cs) h = and_from _ _ (chosen-better scale c d h.0) (ordered-after d cs h.1)

  ordered : (cs : List ℕ) → Rise cs → are_ordered (direction_of scale) (map (λ d. Some (chosen scale d)) cs) ≡ true
  ordered [] h = refl
  ordered (c ∷ cs) h = ordered-after c cs h

  pub ordered-rising : (f : ℕ → ℕ) (n : ℕ) → are_ordered (direction_of scale) (map (λ d. Some (chosen scale d)) (rising_values f n)) ≡ true
  ordered-rising f n = ordered (rising_values f n) (rising-rises f n)
