-- Drawn grades are grades of their scale, and the higher choice is the better one.
use Rattle.std.proofs.Common.{◌≡◌, ℕ, zero, suc, ◌*◌, ◌/◌, ◌%◌, ◌^◌, ◌<◌, ◌≤◌, Bool, true, false, ◌&&◌, ◌||◌, not, cond, ℤ, pos, neg_ℤ, ◌+ℤ◌, ◌≤ℤ◌, List, [], ◌∷◌, length, get_or, Ok, Some, None, nat_lt, true≢false, sym, ap, ◌∙◌, subst, refl, arith, inl, inr}
use Rattle.std.specs.Prelude.{int_le, unsigned_abs}
use Rattle.std.specs.List.{list_all, position_or_len, IsDistinct}
use Rattle.std.specs.Str.{bytes_eq}
use Rattle.std.proofs.lemmas.Bool.{cases_Bool, and_parts, eqb-true, eq-eqb, lt-ltb, le-leb}
use Rattle.std.proofs.lemmas.Int.{ints}
use Rattle.std.proofs.lemmas.List.Sums.{position_or_len_is}
use Rattle.std.proofs.lemmas.Map.Keys.{apart_from_distinct}
use Rattle.std.proofs.lemmas.Slice.Eq.{bytes_eq-Decides}
use Rattle.fixed_core.specs.Spelling.{spelling}
use Rattle.fixed_core.specs.Value.{fixed_of}
use Rattle.fixed_core.proofs.ReadsBack.{spelling-reads}
use Rattle.problem_core.specs.Criterion.{are_bounds, is_criterion, is_criterion_name, is_scale}
use Rattle.problem_core.specs.Grade.{direction_of, is_whole, number_grade, place_grade, read_grade, IsGrade}
use Rattle.problem_core.specs.declared.criterion.Bounds.{Bounds}
use Rattle.problem_core.specs.declared.criterion.Criterion.{Criterion}
use Rattle.problem_core.specs.declared.criterion.Scale.{Scale}
use Rattle.problem_core.specs.declared.criterion.Scale.TheVariants.{Rising, Falling, Named}
use Rattle.problem_core.proofs.NamesFacts.{same_text}
use Rattle.sorting_rule.specs.Preference.{is_as_good}
use Rattle.draw_core.specs.Choice.{chosen, distance, gap_of, no_criterion, scale_at}
use Rattle.draw_core.proofs.StepFacts.{part-within, part-more}

-- ---- numbers

-- whole gaps lead from a whole number to a whole number
whole-up : (z : ℤ) (q : ℕ) → unsigned_abs z % 10 ^ 18 ≡ 0 → unsigned_abs (z +ℤ pos (10 ^ 18 * q)) % 10 ^ 18 ≡ 0
whole-up z q e = omega (arith, ints)

whole-down : (z : ℤ) (q : ℕ) → unsigned_abs z % 10 ^ 18 ≡ 0 → unsigned_abs (z +ℤ neg_ℤ (pos (10 ^ 18 * q))) % 10 ^ 18 ≡ 0
whole-down z q e = omega (arith, ints)

le-test : (a b : ℤ) → a ≤ℤ b → int_le a b ≡ true
le-test a b h = grind (arith, ints)

test-le : (a b : ℤ) → int_le a b ≡ true → a ≤ℤ b
test-le a b h = grind (arith, ints)

-- a number between the bounds, and whole if it has to be
number-on : (bounds : Bounds) (t : ℤ) → (bounds.whole && not (is_whole t)) ≡ false → bounds.least ≤ℤ t → t ≤ℤ bounds.most → number_grade bounds t ≡ Ok t
number-on bounds t even low high = rw (even, le-test bounds.least t low, le-test t bounds.most high) refl

-- the same is whole if the scale asks for it, from the least number on and from the greatest down
rising-whole : (least most : ℤ) (whole : Bool) (c : ℕ) → (not whole || (is_whole least && is_whole most)) ≡ true
    → (whole && not (is_whole (least +ℤ pos (distance (record { least = least; most = most; whole = whole }) c)))) ≡ false
rising-whole least most false c h = refl
rising-whole least most true c h =
    let even = eqb-true (unsigned_abs least % 10 ^ 18) 0 (and_parts (is_whole least) (is_whole most) h).0 in
    ap not (eq-eqb _ 0 (whole-up least (unsigned_abs (most +ℤ neg_ℤ least) / 10 ^ 18 * c / 1000) even))

falling-whole : (least most : ℤ) (whole : Bool) (c : ℕ) → (not whole || (is_whole least && is_whole most)) ≡ true
    → (whole && not (is_whole (most +ℤ neg_ℤ (pos (distance (record { least = least; most = most; whole = whole }) c))))) ≡ false
falling-whole least most false c h = refl
falling-whole least most true c h =
    let even = eqb-true (unsigned_abs most % 10 ^ 18) 0 (and_parts (is_whole least) (is_whole most) h).1 in
    ap not (eq-eqb _ 0 (whole-down most (unsigned_abs (most +ℤ neg_ℤ least) / 10 ^ 18 * c / 1000) even))

module _ (bounds : Bounds) (good : are_bounds bounds ≡ true) where
  parts : (int_le bounds.least bounds.most ≡ true) × ((not bounds.whole || (is_whole bounds.least && is_whole bounds.most)) ≡ true)
  parts = and_parts (int_le bounds.least bounds.most) (not bounds.whole || (is_whole bounds.least && is_whole bounds.most)) good

  pub ordered-bounds : bounds.least ≤ℤ bounds.most
  ordered-bounds = test-le bounds.least bounds.most parts.0

  -- a number of few units between the bounds is a grade: its spelling reads as it
  spelled : (t : ℤ) → unsigned_abs t ≤ 10 ^ 36 → number_grade bounds t ≡ Ok t → read_grade bounds (fixed_of (spelling t)) ≡ Ok t
  spelled t small on = ap (read_grade bounds) (spelling-reads t small) ∙ on

  pub rising-grade : (c : ℕ) (t : ℤ) → c ≤ 1000 → t ≡ chosen (Rising bounds) c → unsigned_abs t ≤ 10 ^ 36 → IsGrade (Rising bounds) t
  rising-grade c t few is small =
      let d : ℕ = distance bounds c in
      let within : d ≤ unsigned_abs (bounds.most +ℤ neg_ℤ bounds.least) = part-within (unsigned_abs (bounds.most +ℤ neg_ℤ bounds.least)) (gap_of bounds) c few in
      let ordered = ordered-bounds in
      let at : t ≡ bounds.least +ℤ pos d = is in
      let even = subst (λ z. (bounds.whole && not (is_whole z)) ≡ false) (sym is) (rising-whole bounds.least bounds.most bounds.whole c parts.1) in
      (spelling t, spelled t small (number-on bounds t even (above bounds.least t d at) (below bounds.least bounds.most t d ordered within at)))
    where
      above : (least t : ℤ) (d : ℕ) → t ≡ least +ℤ pos d → least ≤ℤ t
      above least t d e = omega (arith, ints)

      below : (least most t : ℤ) (d : ℕ) → least ≤ℤ most → d ≤ unsigned_abs (most +ℤ neg_ℤ least) → t ≡ least +ℤ pos d → t ≤ℤ most
      below least most t d o w e = omega (arith, ints)

  pub falling-grade : (c : ℕ) (t : ℤ) → c ≤ 1000 → t ≡ chosen (Falling bounds) c → unsigned_abs t ≤ 10 ^ 36 → IsGrade (Falling bounds) t
  falling-grade c t few is small =
      let d : ℕ = distance bounds c in
      let within : d ≤ unsigned_abs (bounds.most +ℤ neg_ℤ bounds.least) = part-within (unsigned_abs (bounds.most +ℤ neg_ℤ bounds.least)) (gap_of bounds) c few in
      let ordered = ordered-bounds in
      let at : t ≡ bounds.most +ℤ neg_ℤ (pos d) = is in
      let even = subst (λ z. (bounds.whole && not (is_whole z)) ≡ false) (sym is) (falling-whole bounds.least bounds.most bounds.whole c parts.1) in
      (spelling t, spelled t small (number-on bounds t even (above bounds.least bounds.most t d ordered within at) (below bounds.most t d at)))
    where
      above : (least most t : ℤ) (d : ℕ) → least ≤ℤ most → d ≤ unsigned_abs (most +ℤ neg_ℤ least) → t ≡ most +ℤ neg_ℤ (pos d) → least ≤ℤ t
      above least most t d o w e = omega (arith, ints)

      below : (most t : ℤ) (d : ℕ) → t ≡ most +ℤ neg_ℤ (pos d) → t ≤ℤ most
      below most t d e = omega (arith, ints)

-- ---- names

-- the place of a name is found by the name, since no other is equal to it
pub named-grade : (names : List (List ℕ)) (c : ℕ) → IsDistinct bytes_eq names → c < length names → IsGrade (Named names) (pos c)
named-grade names c distinct lt =
    let name : List ℕ = get_or names c [] in
    let first : position_or_len (bytes_eq name) names ≡ c = position_or_len_is (bytes_eq name) names c [] (omega (arith, lt))
    (λ k below. turned (get_or names k []) name (apart_from_distinct bytes_eq names k c [] distinct below lt)) (λ inside. (bytes_eq-Decides name name).1 refl) in
    (name, ap (λ n. place_grade (cond (nat_lt n (length names)) (Some n) None)) first ∙ ap (λ b. place_grade (cond b (Some c) None)) (lt-ltb c (length names) lt))
  where
    turned : (a b : List ℕ) → bytes_eq a b ≡ false → bytes_eq b a ≡ false
    turned a b apart = elim (cases_Bool (bytes_eq b a)) [
      | inl same ↦ (let back : a ≡ b = sym (same_text b a same) in
          absurd (true≢false (sym (subst (λ x. bytes_eq b x ≡ true) back same) ∙ subst (λ x. bytes_eq x b ≡ false) back apart)))
      | inr other ↦ other
    ]

-- ---- order

-- a higher choice is at least as good
pub chosen-better : (scale : Scale) (c d : ℕ) → c ≤ d → is_as_good (direction_of scale) (chosen scale d) (chosen scale c) ≡ true
chosen-better (Rising bounds) c d le =
    up (distance bounds c) (distance bounds d) bounds.least (part-more (unsigned_abs (bounds.most +ℤ neg_ℤ bounds.least)) (gap_of bounds) c d le)
  where
    up : (a b : ℕ) (z : ℤ) → a ≤ b → int_le (z +ℤ pos a) (z +ℤ pos b) ≡ true
    up a b z h = le-test (z +ℤ pos a) (z +ℤ pos b) (omega (arith, ints))
chosen-better (Falling bounds) c d le =
    down (distance bounds c) (distance bounds d) bounds.most (part-more (unsigned_abs (bounds.most +ℤ neg_ℤ bounds.least)) (gap_of bounds) c d le)
  where
    down : (a b : ℕ) (z : ℤ) → a ≤ b → int_le (z +ℤ neg_ℤ (pos b)) (z +ℤ neg_ℤ (pos a)) ≡ true
    down a b z h = le-test (z +ℤ neg_ℤ (pos b)) (z +ℤ neg_ℤ (pos a)) (omega (arith, ints))
chosen-better (Named names) c d le = le-leb c d le

-- ---- the criteria of a problem

passes-at : {A : Type 0} (p : A → Bool) (xs : List A) (i : ℕ) (d : A) → list_all p xs ≡ true → i < length xs → p (get_or xs i d) ≡ true
passes-at p [] i d h lt = absurd (omega (arith, lt))
passes-at p (x ∷ xs) zero d h lt = (and_parts (p x) (list_all p xs) h).0
passes-at p (x ∷ xs) (suc i) d h lt = passes-at p xs i d (and_parts (p x) (list_all p xs) h).1 (omega (arith, lt))

-- the scale of each criterion is one that a problem may have
pub scale-good : (criteria : List Criterion) (i : ℕ) → list_all is_criterion criteria ≡ true → i < length criteria → is_scale (scale_at criteria i) ≡ true
scale-good criteria i good lt =
    let c = get_or criteria i no_criterion in
    (and_parts (is_criterion_name c.name) (is_scale c.scale) (passes-at is_criterion criteria i no_criterion good lt)).1
