-- The ranked grades rise strictly in preference, and are the grades that there are.
use Rattle.std.proofs.Common.{◌≡◌, ℕ, zero, suc, ◌<◌, ◌↔◌, ℤ, pos, Bool, true, false, cond, List, [], ◌∷◌, length, get_or, refl, sym, ap, ◌∙◌, subst, arith, inl, inr}
use Rattle.std.specs.List.{All, AllPairs, Contains}
use Rattle.std.proofs.lemmas.Int.{ints}
use Rattle.std.proofs.lemmas.Bool.{false≢true}
use Rattle.std.proofs.lemmas.List.{get_or_default}
use Rattle.std.proofs.lemmas.List.Elements.{All-cons, All-nil, All-head, All-tail, All-weaker, All-contains}
use Rattle.std.proofs.lemmas.List.Sums.{position_or_len_is}
use Rattle.literals_core.proofs.Members.{Contains-first, Contains-later, Contains-cases}
use Rattle.sorting_rule.specs.Preference.{Direction, rising, falling, is_as_good}
use Rattle.encoding_rules.specs.Ranks.{put_grade, ranking, place_of}

pub as_good_itself : (d : Direction) (x : ℤ) → is_as_good d x x ≡ true
as_good_itself rising x = grind (arith, ints)
as_good_itself falling x = grind (arith, ints)

pub as_good_twice : (d : Direction) (x t s : ℤ) → is_as_good d x t ≡ true → is_as_good d t s ≡ true → is_as_good d x s ≡ true
as_good_twice rising x t s a b = grind (arith, ints)
as_good_twice falling x t s a b = grind (arith, ints)

pub one_as_good : (d : Direction) (x y : ℤ) → is_as_good d x y ≡ false → is_as_good d y x ≡ true
one_as_good rising x y h = grind (arith, ints)
one_as_good falling x y h = grind (arith, ints)

pub same_grade : (d : Direction) (x y : ℤ) → is_as_good d x y ≡ true → is_as_good d y x ≡ true → x ≡ y
same_grade rising x y a b = grind (arith, ints)
same_grade falling x y a b = grind (arith, ints)

pub not_as_good_twice : (d : Direction) (x y z : ℤ) → is_as_good d x y ≡ false → is_as_good d y z ≡ false → is_as_good d x z ≡ false
not_as_good_twice rising x y z a b = grind (arith, ints)
not_as_good_twice falling x y z a b = grind (arith, ints)

module _ {X : Type 0} (R : X → X → Type 0) where
  pub pairs_cons : (x : X) (xs : List X) → All (R x) xs → AllPairs R xs → AllPairs R (x ∷ xs)
  pairs_cons x xs all pairs zero zero d lt below = absurd (omega (arith, lt))
  pairs_cons x xs all pairs zero (suc j) d lt below = all j d (omega (arith, below))
  pairs_cons x xs all pairs (suc i) zero d lt below = absurd (omega (arith, lt))
  pairs_cons x xs all pairs (suc i) (suc j) d lt below = pairs i j d (omega (arith, lt)) (omega (arith, below))

  pub pairs_head : (x : X) (xs : List X) → AllPairs R (x ∷ xs) → All (R x) xs
  pairs_head x xs h = λ j d below. h 0 (suc j) d (omega arith) (omega (arith, below))

  pub pairs_tail : (x : X) (xs : List X) → AllPairs R (x ∷ xs) → AllPairs R xs
  pairs_tail x xs h = λ i j d lt below. h (suc i) (suc j) d (omega (arith, lt)) (omega (arith, below))

  pub pairs_nil : AllPairs R []
  pairs_nil = λ i j d lt below. absurd (omega (arith, below))

module _ (d : Direction) where
  abbrev Below : ℤ → ℤ → Type 0
  Below x y = is_as_good d x y ≡ false

  pub put_by : (x y : ℤ) (ys : List ℤ) (p q : Bool) → is_as_good d y x ≡ p → is_as_good d x y ≡ q → put_grade d x (y ∷ ys) ≡ (cond p (cond q (y ∷ ys) (x ∷ y ∷ ys)) (y ∷ put_grade d x ys))
  put_by x y ys p q e f = ap (λ b. cond b (cond (is_as_good d x y) (y ∷ ys) (x ∷ y ∷ ys)) (y ∷ put_grade d x ys)) e ∙ ap (λ b. cond p (cond b (y ∷ ys) (x ∷ y ∷ ys)) (y ∷ put_grade d x ys)) f

  -- what holds of the grade and of the others holds of all
  put_all : (P : ℤ → Type 0) (x : ℤ) (ys : List ℤ) → P x → All P ys → All P (put_grade d x ys)
  put_all P x [] px all = All-cons P x [] px all
  put_all P x (y ∷ ys) px all = by (All-cons P y (put_grade d x ys) (All-head P y ys all) (put_all P x ys px (All-tail P y ys all))) (is_as_good d y x) (is_as_good d x y) refl refl
    where
      by : All P (y ∷ put_grade d x ys) → (p q : Bool) → is_as_good d y x ≡ p → is_as_good d x y ≡ q → All P (put_grade d x (y ∷ ys))
      by rest true true e f = subst (All P) (sym (put_by x y ys true true e f)) all
      by rest true false e f = subst (All P) (sym (put_by x y ys true false e f)) (All-cons P x (y ∷ ys) px all)
      by rest false q e f = subst (All P) (sym (put_by x y ys false q e f)) rest

  put_rises : (x : ℤ) (ys : List ℤ) → AllPairs Below ys → AllPairs Below (put_grade d x ys)
  put_rises x [] pairs = pairs_cons Below x [] (All-nil (Below x)) pairs
  put_rises x (y ∷ ys) pairs = by (put_rises x ys (pairs_tail Below y ys pairs)) (pairs_head Below y ys pairs) (is_as_good d y x) (is_as_good d x y) refl refl
    where
      by : AllPairs Below (put_grade d x ys) → All (Below y) ys → (p q : Bool) → is_as_good d y x ≡ p → is_as_good d x y ≡ q → AllPairs Below (put_grade d x (y ∷ ys))
      by rest above true true e f = subst (AllPairs Below) (sym (put_by x y ys true true e f)) pairs
      by rest above true false e f = subst (AllPairs Below) (sym (put_by x y ys true false e f))
          (pairs_cons Below x (y ∷ ys) (All-cons (Below x) y ys f (All-weaker (Below y) (Below x) (λ z h. not_as_good_twice d x y z f h) ys above)) pairs)
      by rest above false q e f = subst (AllPairs Below) (sym (put_by x y ys false q e f))
          (pairs_cons Below y (put_grade d x ys) (put_all (Below y) x ys e above) rest)

  -- the grade is there
  put_has : (x : ℤ) (ys : List ℤ) → Contains (put_grade d x ys) x
  put_has x [] = Contains-first x []
  put_has x (y ∷ ys) = by (Contains-later y x (put_grade d x ys) (put_has x ys)) (is_as_good d y x) (is_as_good d x y) refl refl
    where
      by : Contains (y ∷ put_grade d x ys) x → (p q : Bool) → is_as_good d y x ≡ p → is_as_good d x y ≡ q → Contains (put_grade d x (y ∷ ys)) x
      by rest true true e f = subst (λ zs. Contains zs x) (sym (put_by x y ys true true e f)) (subst (λ z. Contains (y ∷ ys) z) (same_grade d y x e f) (Contains-first y ys))
      by rest true false e f = subst (λ zs. Contains zs x) (sym (put_by x y ys true false e f)) (Contains-first x (y ∷ ys))
      by rest false q e f = subst (λ zs. Contains zs x) (sym (put_by x y ys false q e f)) rest

  -- and so are the others
  put_keeps : (x z : ℤ) (ys : List ℤ) → Contains ys z → Contains (put_grade d x ys) z
  put_keeps x z [] among = absurd (let lt = among.1 in omega (arith, lt))
  put_keeps x z (y ∷ ys) among = by (elim (Contains-cases y z ys among) [ inl same ↦ subst (λ w. Contains (y ∷ put_grade d x ys) w) same (Contains-first y (put_grade d x ys)) | inr later ↦ Contains-later y z (put_grade d x ys) (put_keeps x z ys later) ]) (is_as_good d y x) (is_as_good d x y) refl refl
    where
      by : Contains (y ∷ put_grade d x ys) z → (p q : Bool) → is_as_good d y x ≡ p → is_as_good d x y ≡ q → Contains (put_grade d x (y ∷ ys)) z
      by rest true true e f = subst (λ zs. Contains zs z) (sym (put_by x y ys true true e f)) among
      by rest true false e f = subst (λ zs. Contains zs z) (sym (put_by x y ys true false e f)) (Contains-later x z (y ∷ ys) among)
      by rest false q e f = subst (λ zs. Contains zs z) (sym (put_by x y ys false q e f)) rest

  pub ranking_rises : (xs : List ℤ) → AllPairs Below (ranking d xs)
  ranking_rises [] = pairs_nil Below
  ranking_rises (x ∷ xs) = put_rises x (ranking d xs) (ranking_rises xs)

  pub ranking_has : (x : ℤ) (xs : List ℤ) → Contains xs x → Contains (ranking d xs) x
  ranking_has x [] among = absurd (let lt = among.1 in omega (arith, lt))
  ranking_has x (y ∷ xs) (zero, lt, e) = subst (λ w. Contains (put_grade d y (ranking d xs)) w) e (put_has y (ranking d xs))
  ranking_has x (y ∷ xs) (suc k, lt, e) = put_keeps y x (ranking d xs) (ranking_has x xs (k, omega (arith, lt), e))

  pub ranking_all : (P : ℤ → Type 0) (xs : List ℤ) → All P xs → All P (ranking d xs)
  ranking_all P [] all = all
  ranking_all P (x ∷ xs) all = put_all P x (ranking d xs) (All-head P x xs all) (ranking_all P xs (All-tail P x xs all))

  -- the place of a ranked grade
  pub place_is : (ys : List ℤ) (x : ℤ) → AllPairs Below ys → Contains ys x → (place_of d ys x < length ys) × (get_or ys (place_of d ys x) (pos 0) ≡ x)
  place_is ys x pairs (k, lt, e) =
      let here : get_or ys k (pos 0) ≡ x = get_or_default ys k (pos 0) x lt ∙ e in
      let before : (j : ℕ) → j < k → is_as_good d (get_or ys j (pos 0)) x ≡ false = λ j below. subst (λ z. is_as_good d (get_or ys j (pos 0)) z ≡ false) here (pairs j k (pos 0) below lt) in
      let at : is_as_good d (get_or ys k (pos 0)) x ≡ true = ap (λ z. is_as_good d z x) here ∙ as_good_itself d x in
      let place : place_of d ys x ≡ k = position_or_len_is (λ y. is_as_good d y x) ys k (pos 0) (omega (arith, lt)) before (λ _. at) in
      (subst (λ p. p < length ys) (sym place) lt, subst (λ p. get_or ys p (pos 0) ≡ x) (sym place) here)

-- two lists that rise strictly and have the same grades are the same
module _ (d : Direction) where
  abbrev Under : ℤ → ℤ → Type 0
  Under x y = is_as_good d x y ≡ false

  same_head : (x y : ℤ) (xs ys : List ℤ) → AllPairs Under (x ∷ xs) → AllPairs Under (y ∷ ys) → Contains (y ∷ ys) x → Contains (x ∷ xs) y → x ≡ y
  same_head x y xs ys up down in_x in_y = elim (Contains-cases y x ys in_x) [
    | inl e ↦ sym e
    | inr later ↦ elim (Contains-cases x y xs in_y) [
      | inl e ↦ e
      | inr above ↦ absurd (false≢true (sym (All-contains (Under y) ys x (pairs_head Under y ys down) later) ∙ one_as_good d x y (All-contains (Under x) xs y (pairs_head Under x xs up) above)))
    ]
  ]

  in_tail : (x y z : ℤ) (xs ys : List ℤ) → AllPairs Under (x ∷ xs) → x ≡ y → Contains xs z → Contains (y ∷ ys) z → Contains ys z
  in_tail x y z xs ys up same among here = elim (Contains-cases y z ys here) [
    | inl e ↦ absurd (false≢true (sym (subst (λ w. is_as_good d w z ≡ false) (same ∙ e) (All-contains (Under x) xs z (pairs_head Under x xs up) among)) ∙ as_good_itself d z))
    | inr later ↦ later
  ]

  pub rising_same : (xs ys : List ℤ) → AllPairs Under xs → AllPairs Under ys → ((z : ℤ) → Contains xs z ↔ Contains ys z) → xs ≡ ys
  rising_same [] [] up down same = refl
  rising_same [] (y ∷ ys) up down same = absurd (let h = (same y).1 (Contains-first y ys) in let lt = h.1 in omega (arith, lt))
  rising_same (x ∷ xs) [] up down same = absurd (let h = (same x).0 (Contains-first x xs) in let lt = h.1 in omega (arith, lt))
  rising_same (x ∷ xs) (y ∷ ys) up down same =
      let head : x ≡ y = same_head x y xs ys up down ((same x).0 (Contains-first x xs)) ((same y).1 (Contains-first y ys)) in
      let tail : xs ≡ ys = rising_same xs ys (pairs_tail Under x xs up) (pairs_tail Under y ys down) (λ z. (
        (λ among. in_tail x y z xs ys up head among ((same z).0 (Contains-later x z xs among))),
        (λ among. in_tail y x z ys xs down (sym head) among ((same z).1 (Contains-later y z ys among))),
      )) in
      ap (λ w. w ∷ xs) head ∙ ap (λ zs. y ∷ zs) tail
