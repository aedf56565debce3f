-- Grades that are sorted by preference and kept once are ranked, and a grade's place among them is found by halving.
use Rattle.std.proofs.Common.{◌≡◌, ℕ, ◌+◌, ◌≤◌, ℤ, pos, Bool, true, false, not, cond, List, [], ◌∷◌, length, get_or, refl, sym, ap, subst, arith, inl, inr, int_eq}
use Rattle.std.specs.Cmp.{IsStrictWeakOrder, IsEquivalence}
use Rattle.std.specs.List.{All, AllPairs, Contains, dedup, dedup_from}
use Rattle.std.specs.List.Sorted.{IsPermutation, IsSortedBy, IsPartitionedBy, IsPartitionPoint}
use Rattle.std.proofs.lemmas.Int.{ints}
use Rattle.std.proofs.lemmas.Bool.{false_from_ne_true, not-true, not-false, cases_lt, cases_Bool}
use Rattle.std.proofs.lemmas.List.Elements.{All-cons, All-nil, All-head, All-tail, All-weaker}
use Rattle.std.proofs.lemmas.List.Kept.{Contains-dedup, Contains-from_dedup}
use Rattle.std.proofs.lemmas.List.Sorted.{sorted_far, Contains-permutation, IsPermutation-sym}
use Rattle.std.proofs.lemmas.List.Sums.{position_or_len_is}
use Rattle.sorting_rule.specs.Preference.{Direction, is_as_good}
use Rattle.encoding_rules.specs.Ranks.{ranking, place_of, put_grade}
use Rattle.encoding_rules.proofs.RankFacts.{put_by, as_good_itself, as_good_twice, one_as_good, same_grade, not_as_good_twice, pairs_cons, pairs_head, pairs_tail, pairs_nil}
use Rattle.encoding_rules.proofs.Laws.{IsRanking-only}

pub same_int : (x y : ℤ) → int_eq x y ≡ true → x ≡ y
same_int x y h = grind (arith, ints)

pub int_same : (x y : ℤ) → x ≡ y → int_eq x y ≡ true
int_same x y h = grind (arith, ints)

-- equality of grades
equal : IsEquivalence int_eq
equal = record {
  refl = λ x. int_same x x refl;
  symm = λ x y. grind (arith, ints);
  congr = λ x y z h. ap (λ w. int_eq w z) (same_int x y h);
}

module _ (d : Direction) where
  -- a grade is worse than another
  abbrev pub is_worse : ℤ → ℤ → Bool
  is_worse x y = not (is_as_good d x y)

  pub worse_orders : IsStrictWeakOrder is_worse
  worse_orders = record {
    one_way = λ x y h. ap not (one_as_good d x y (not-true (is_as_good d x y) h));
    chain = λ x y z h k. ap not (as_good_twice d x y z (not-false (is_as_good d x y) h) (not-false (is_as_good d y z) k));
  }

  abbrev AsGood : ℤ → ℤ → Type 0
  AsGood x y = is_as_good d y x ≡ true

  abbrev Below : ℤ → ℤ → Type 0
  Below x y = is_as_good d x y ≡ false

  -- in sorted grades each later one is as good
  sorted_pairs : (xs : List ℤ) → IsSortedBy is_worse xs → AllPairs AsGood xs
  sorted_pairs xs up i j e before within = not-false (is_as_good d (get_or xs j e) (get_or xs i e)) (sorted_far is_worse worse_orders xs up i j e (omega (arith, before)) within)

  -- a grade above another that is as good as a third one and differs from it
  above : (y x z : ℤ) → int_eq x y ≡ false → AsGood y x → AsGood x z → Below y z
  above y x z differ xy zx = false_from_ne_true (is_as_good d y z) (λ yz.
      let same : int_eq x y ≡ true = int_same x y (same_grade d x y xy (as_good_twice d y z x yz zx)) in absurd cc)

  -- grades that are kept once, of which the first is this one
  record AreKept (first : ℤ) (kept : List ℤ) : Type 0 where
    rises : AllPairs Below kept
    as_good : All (AsGood first) kept

  kept_one : (y : ℤ) → AreKept y (y ∷ [])
  kept_one y = record { rises = pairs_cons Below y [] (All-nil (Below y)) (pairs_nil Below); as_good = All-cons (AsGood y) y [] (as_good_itself d y) (All-nil (AsGood y)) }

  kept_by : (y x : ℤ) (xs : List ℤ) (b : Bool) → int_eq x y ≡ b → AreKept y (dedup_from int_eq y xs) → AreKept x (dedup_from int_eq x xs) → AsGood y x
      → AreKept y (cond b (dedup_from int_eq y xs) (y ∷ dedup_from int_eq x xs))
  kept_by y x xs true e same next good = same
  kept_by y x xs false e same next good =
      let rest : List ℤ = dedup_from int_eq x xs in
      record {
        rises = pairs_cons Below y rest (All-weaker (AsGood x) (Below y) (λ z. above y x z e good) rest next.as_good) next.rises;
        as_good = All-cons (AsGood y) y rest (as_good_itself d y) (All-weaker (AsGood x) (AsGood y) (λ z h. as_good_twice d z x y h good) rest next.as_good);
      }

  kept : (y : ℤ) (xs : List ℤ) → All (AsGood y) xs → AllPairs AsGood xs → AreKept y (dedup_from int_eq y xs)
  kept y [] all pairs = kept_one y
  kept y (x ∷ xs) all pairs =
      kept_by y x xs (int_eq x y) refl (kept y xs (All-tail (AsGood y) x xs all) (pairs_tail AsGood x xs pairs))
      (kept x xs (pairs_head AsGood x xs pairs) (pairs_tail AsGood x xs pairs)) (All-head (AsGood y) x xs all)

  kept_rises : (xs : List ℤ) → AllPairs AsGood xs → AllPairs Below (dedup int_eq xs)
  kept_rises [] pairs = pairs_nil Below
  kept_rises (x ∷ xs) pairs = (kept x xs (pairs_head AsGood x xs pairs) (pairs_tail AsGood x xs pairs)).rises

  -- sorted grades, each kept once, are ranked
  pub sorted_once : (xs sorted ranked : List ℤ) → IsPermutation xs sorted → IsSortedBy is_worse sorted → ranked ≡ dedup int_eq sorted → ranked ≡ ranking d xs
  sorted_once xs sorted ranked moved up is = IsRanking-only d xs ranked (record {
    rises = subst (AllPairs Below) (sym is) (kept_rises sorted (sorted_pairs sorted up));
    same = λ x. (
      (λ among. Contains-permutation sorted xs x (IsPermutation-sym xs sorted moved) (Contains-from_dedup int_eq sorted x (subst (λ zs. Contains zs x) is among))),
      (λ among. subst (λ zs. Contains zs x) (sym is) (Contains-dedup equal same_int sorted x (Contains-permutation xs sorted x moved among))),
    );
  })

  -- in ranked grades those that are worse than one come first
  pub worse_first : (ranked : List ℤ) (x : ℤ) → AllPairs (λ y z. is_as_good d y z ≡ false) ranked → IsPartitionedBy (λ y. not (is_as_good d y x)) ranked
  worse_first ranked x rises i j e le within h = elim (cases_lt i j) [
    | inl before ↦ ap not (not_as_good_twice d (get_or ranked i e) (get_or ranked j e) x (rises i j e before within) (not-true (is_as_good d (get_or ranked j e) x) h))
    | inr after ↦ (let same : j ≡ i = omega (arith, le, after) in subst (λ k. not (is_as_good d (get_or ranked k e) x) ≡ true) same h)
  ]

  -- so the place of the first that is as good is where they end
  pub place_is : (ranked : List ℤ) (x : ℤ) (i : ℕ) → i ≤ length ranked → IsPartitionPoint (λ y. not (is_as_good d y x) ≡ true) (λ y. not (is_as_good d y x) ≡ false) ranked i → i ≡ place_of d ranked x
  place_is ranked x i le point = sym (position_or_len_is (λ y. is_as_good d y x) ranked i (pos 0) le
      (λ k lt. not-true (is_as_good d (get_or ranked k (pos 0)) x) (point.0 k (pos 0) (omega arith) lt))
      (λ lt. not-false (is_as_good d (get_or ranked i (pos 0)) x) (point.1 i (pos 0) (omega arith) lt)))

  put_few : (x : ℤ) (ys : List ℤ) → length (put_grade d x ys) ≤ length ys + 1
  put_few x [] = omega arith
  put_few x (y ∷ ys) = elim (cases_Bool (is_as_good d y x)) [
    | inl o ↦ elim (cases_Bool (is_as_good d x y)) [
      | inl p ↦ (let e = ap length (put_by d x y ys true true o p) in omega (arith, e))
      | inr p ↦ (let e = ap length (put_by d x y ys true false o p) in omega (arith, e))
    ]
    | inr o ↦ (let e = ap length (put_by d x y ys false (is_as_good d x y) o refl) in let rest = put_few x ys in omega (arith, e, rest))
  ]

  pub ranking_few : (xs : List ℤ) → length (ranking d xs) ≤ length xs
  ranking_few [] = omega arith
  ranking_few (x ∷ xs) = let here = put_few x (ranking d xs) in let rest = ranking_few xs in omega (arith, here, rest)
