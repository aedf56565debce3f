-- A model with the same weights at each boundary gives the categories of a model with one closed family.
use Rattle.std.proofs.Common.{◌≡◌, ℕ, zero, suc, ◌+◌, ◌/◌, ◌%◌, ◌^◌, ◌<◌, ◌≤◌, ◌==◌, Bool, true, false, cond, ℤ, pos, List, [], ◌∷◌, length, map, refl, sym, ap, ◌∙◌, subst, true≢false, inl, inr, arith, bit_and}
use Rattle.std.specs.Prelude.{int_le, nat_le, replicate, unsigned_abs}
use Rattle.std.specs.List.{All, Contains, list_any}
use Rattle.std.proofs.Math.Pow.{pow_mono}
use Rattle.std.proofs.lemmas.Bool.{cases_Bool, cases_lt, eq-eqb, eqb-true, ne_eqb, le-leb, leb-true}
use Rattle.std.proofs.lemmas.List.{length-map}
use Rattle.std.proofs.lemmas.List.Elements.{All-cons, All-contains, All-head, All-nil, All-tail, All-weaker}
use Rattle.std.proofs.lemmas.Nat.{and_le_r, and_mod, and_shr}
use Rattle.problem_core.specs.Grade.{direction_of}
use Rattle.problem_core.specs.Problem.{ProblemValue, IsProblem}
use Rattle.problem_core.specs.declared.criterion.Criterion.{Criterion}
use Rattle.sorting_rule.specs.Coalition as coalition
use Rattle.sorting_rule.specs.Coalition.{family, is_inside, is_sufficient, weights, ONE, IsClosed}
use Rattle.sorting_rule.specs.Examples.{Example, HasNoModel, Restores}
use Rattle.sorting_rule.specs.Model as rule
use Rattle.sorting_rule.specs.Model.{accepted_flags, accepted_set, category, greatest, is_reached, reached_from}
use Rattle.sorting_rule.specs.Preference.{Direction}
use Rattle.sorting_rule.proofs.MaskFacts.{inside_is, mask_below}
use Rattle.model_core.specs.Model.{ModelValue, boundaries_of, profile_of, profiles_of, rule_of, sufficient_by, AreCoalitions, Belongs, IsWeight}
use Rattle.model_core.specs.declared.model.Coalitions.TheVariants.{Weights}
use Rattle.model_core.specs.declared.model.Profile.{Profile}
use Rattle.model_core.proofs.WeightLemmas.{magnitude_of, weight-magnitude, IsPlain}
use Rattle.draw_core.specs.DrawnModel.{drawn_model, drawn_weights}

-- ---- the sets below a number that pass a test

abbrev sets_below : (ℕ → Bool) → ℕ → List ℕ
sets_below p zero = []
sets_below p (suc n) = cond (p n) (n ∷ sets_below p n) (sets_below p n)

module _ (p : ℕ → Bool) where
  each-passes : (n : ℕ) → All (λ set. p set ≡ true) (sets_below p n)
  each-passes zero = All-nil (λ set. p set ≡ true)
  each-passes (suc n) = elim (cases_Bool (p n)) [
    | inl a ↦ rw a (All-cons (λ set. p set ≡ true) n (sets_below p n) a (each-passes n))
    | inr b ↦ rw b (each-passes n)
  ]

  held : (n set : ℕ) → set < n → p set ≡ true → Contains (sets_below p n) set
  held zero set lt h = absurd (omega (arith, lt))
  held (suc n) set lt h = elim (cases_Bool (p n)) [
    | inl a ↦ rw a (elim (cases_lt set n) [
      | inl before ↦ (let (k, small, is) = held n set before h in (suc k, omega (arith, small), is))
      | inr past ↦ (let same : n ≡ set = omega (arith, lt, past) in (0, omega arith, same))
    ])
    | inr b ↦ rw b (elim (cases_lt set n) [
      | inl before ↦ held n set before h
      | inr past ↦ (let same : n ≡ set = omega (arith, lt, past) in absurd (true≢false (sym h ∙ ap p (sym same) ∙ b)))
    ])
  ]

  -- whether a set is one of them
  found : (n set : ℕ) → set < n → list_any (λ member. member == set) (sets_below p n) ≡ p set
  found n set lt = elim (cases_Bool (p set)) [
    | inl a ↦ any-held (sets_below p n) set (held n set lt a) ∙ sym a
    | inr b ↦ none-held (sets_below p n) set (λ among. true≢false (sym (All-contains (λ s. p s ≡ true) (sets_below p n) set (each-passes n) among) ∙ b)) ∙ sym b
  ]
    where
      any-held : (sets : List ℕ) (set : ℕ) → Contains sets set → list_any (λ member. member == set) sets ≡ true
      any-held [] set (k, lt, is) = absurd (omega (arith, lt))
      any-held (x ∷ xs) set (zero, lt, is) = rw (eq-eqb x set is) refl
      any-held (x ∷ xs) set (suc k, lt, is) = elim (cases_Bool (x == set)) [ inl a ↦ rw a refl | inr b ↦ rw b (any-held xs set (k, omega (arith, lt), is)) ]

      none-held : (sets : List ℕ) (set : ℕ) → (Contains sets set → ⊥) → list_any (λ member. member == set) sets ≡ false
      none-held [] set none = refl
      none-held (x ∷ xs) set none =
          rw (ne_eqb x set (λ is. none (0, omega arith, is)))
          (none-held xs set (λ among. none (suc among.0, (let lt = among.1 in omega (arith, lt)), among.2)))

-- ---- larger sets weigh no less

abbrev part : ℤ → ℕ → ℕ
part w set = cond (set % 2 == 1) (unsigned_abs w) 0

part-more : (w : ℤ) (a b : ℕ) → a % 2 ≤ b % 2 → part w a ≤ part w b
part-more w a b le = elim (cases_Bool (a % 2 == 1)) [
  | inl one ↦ (let is = eqb-true (a % 2) 1 one in let same : b % 2 ≡ 1 = omega (arith, is, le) in rw (one, eq-eqb (b % 2) 1 same) (omega arith))
  | inr other ↦ rw other (omega arith)
]

weight-more : (ws : List ℤ) (a b : ℕ) → bit_and a b ≡ a → magnitude_of ws a ≤ magnitude_of ws b
weight-more [] a b inside = omega arith
weight-more (w ∷ ws) a b inside =
    let low : bit_and (a % 2) (b % 2) ≡ a % 2 = sym (and_mod a b 1) ∙ ap (λ n. n % 2) inside in
    let less = and_le_r (a % 2) (b % 2) in
    let here = part-more w a b (omega (arith, low, less)) in
    let rest = weight-more ws (a / 2) (b / 2) (sym (and_shr a b 1) ∙ ap (λ n. n / 2) inside) in
    omega (arith, here, rest)

module _ (ws : List ℤ) (good : All IsPlain ws) (n : ℕ) where
  abbrev enough : ℕ → Bool
  enough set = is_sufficient (weights ws) set

  abbrev sets : List ℕ
  sets = sets_below enough (2 ^ n)

  by-magnitude : (set : ℕ) → enough set ≡ nat_le ONE (magnitude_of ws set)
  by-magnitude set = ap (int_le (pos ONE)) (weight-magnitude ws set good)

  closed : IsClosed n sets
  closed set larger among below inside =
      let passes : enough set ≡ true = All-contains (λ s. enough s ≡ true) (sets_below enough (2 ^ n)) set (each-passes enough (2 ^ n)) among in
      let heavy : ONE ≤ magnitude_of ws set = leb-true ONE (magnitude_of ws set) (sym (by-magnitude set) ∙ passes) in
      let more = weight-more ws set larger (inside_is set larger inside) in
      held enough (2 ^ n) larger below (by-magnitude larger ∙ le-leb ONE (magnitude_of ws larger) (omega (arith, heavy, more)))

  -- ---- the same categories

  flags-few : (ps : List rule.Profile) (place : ℕ) (grades : List ℤ) → length (accepted_flags ps place grades) ≤ length ps
  flags-few [] place grades = omega arith
  flags-few (p ∷ ps) place [] = omega arith
  flags-few (p ∷ ps) place (x ∷ xs) = let rest = flags-few ps place xs in omega (arith, rest)

  same-reached : (ps : List rule.Profile) (place : ℕ) (grades : List ℤ) → length ps ≡ n → is_reached ps place (family sets) grades ≡ is_reached ps place (weights ws) grades
  same-reached ps place grades size =
      let few = flags-few ps place grades in
      let below = mask_below (accepted_flags ps place grades) in
      let most : 2 ^ length (accepted_flags ps place grades) ≤ 2 ^ n = pow_mono (omega (arith, few, size)) in
      found enough (2 ^ n) (accepted_set ps place grades) (omega (arith, below, most))

  same-numbers : (ps : List rule.Profile) (grades : List ℤ) (k place : ℕ) → length ps ≡ n
      → reached_from ps place (replicate k (family sets)) grades ≡ reached_from ps place (replicate k (weights ws)) grades
  same-numbers ps grades zero place size = refl
  same-numbers ps grades (suc k) place size = rw (same-reached ps place grades size, same-numbers ps grades k (place + 1) size) refl

  same-category : (ps : List rule.Profile) (grades : List ℤ) (k : ℕ) → length ps ≡ n
      → category (record { profiles = ps; coalitions = replicate k (family sets) }) grades ≡ category (record { profiles = ps; coalitions = replicate k (weights ws) }) grades
  same-category ps grades k size = ap greatest (same-numbers ps grades k 0 size)

-- ---- the profiles of a model that belongs to a problem

map-same : {A B : Type 0} (f : A → B) (k : ℕ) (x : A) → map f (replicate k x) ≡ replicate k (f x)
map-same f zero x = refl
map-same f (suc k) x = ap (λ ys. f x ∷ ys) (map-same f k x)

directions-of : (cs : List Criterion) (ps : List Profile) → length ps ≡ length cs → map (λ (p : rule.Profile). p.direction) (profiles_of cs ps) ≡ map (λ (c : Criterion). direction_of c.scale) cs
directions-of [] ps same = refl
directions-of (c ∷ cs) [] same = absurd (omega (arith, same))
directions-of (c ∷ cs) (p ∷ ps) same = ap (λ (ds : List Direction). direction_of c.scale ∷ ds) (directions-of cs ps (omega (arith, same)))

profiles-many : (cs : List Criterion) (ps : List Profile) → length ps ≡ length cs → length (profiles_of cs ps) ≡ length cs
profiles-many [] ps same = refl
profiles-many (c ∷ cs) [] same = absurd (omega (arith, same))
profiles-many (c ∷ cs) (p ∷ ps) same = ap (λ n. suc n) (profiles-many cs ps (omega (arith, same)))

thresholds-many : (k : ℕ) (cs : List Criterion) (ps : List Profile) → All (λ p. length p.thresholds ≡ k) ps → All (λ p. length p.thresholds ≡ k) (profiles_of cs ps)
thresholds-many k [] ps all = All-nil (λ (p : rule.Profile). length p.thresholds ≡ k)
thresholds-many k (c ∷ cs) [] all = All-nil (λ (p : rule.Profile). length p.thresholds ≡ k)
thresholds-many k (c ∷ cs) (p ∷ ps) all =
    All-cons (λ (q : rule.Profile). length q.thresholds ≡ k) (profile_of c p) (profiles_of cs ps) (All-head (λ (q : Profile). length q.thresholds ≡ k) p ps all)
    (thresholds-many k cs ps (All-tail (λ (q : Profile). length q.thresholds ≡ k) p ps all))

copied : {A : Type 0} (P : A → Type 0) (k : ℕ) (x : A) → 1 ≤ k → All P (replicate k x) → P x
copied P zero x some all = absurd (omega (arith, some))
copied P (suc k) x some all = All-head P x (replicate k x) all

-- examples that a drawn model restores are restored by ordered thresholds with one closed family
pub has-model : (problem : ProblemValue) (words : List ℕ) (m : ModelValue) (examples : List Example) → IsProblem problem → m ≡ drawn_model problem words → Belongs problem m → Restores (rule_of problem m) examples
    → HasNoModel (map (λ c. direction_of c.scale) problem.criteria) (length problem.categories) examples → ⊥
unfolding drawn_model
has-model problem words m examples is drawn belongs restored none =
    let n : ℕ = length problem.criteria in
    let k : ℕ = boundaries_of problem in
    let ws : List ℤ = drawn_weights problem words in
    let profiles : List rule.Profile = profiles_of problem.criteria m.profiles in
    let same : m.coalitions ≡ replicate k (Weights ws) = ap (λ (x : ModelValue). x.coalitions) drawn in
    let by_weights : map sufficient_by m.coalitions ≡ replicate k (weights ws) = ap (map sufficient_by) same ∙ map-same sufficient_by k (Weights ws) in
    let some : 1 ≤ k = (let more = is.some_categories in omega (arith, more)) in
    let each : AreCoalitions n (Weights ws) = copied (AreCoalitions n) k (Weights ws) some (subst (All (AreCoalitions n)) same belongs.coalitions) in
    let good : All IsPlain ws = All-weaker IsWeight IsPlain (λ w h. h.0) ws each.1 in
    let family_of : List ℕ = sets ws good n in
    let size : length profiles ≡ n = profiles-many problem.criteria m.profiles belongs.criteria in
    let categories : (e : Example) → category (rule_of problem m) e.grades ≡ e.category → category (record { profiles = profiles; coalitions = replicate k (family family_of) }) e.grades ≡ e.category =
    λ e r. same-category ws good n profiles e.grades k size ∙ ap (λ (cs : List coalition.Coalitions). category (record { profiles = profiles; coalitions = cs }) e.grades) (sym by_weights) ∙ r in
    none profiles (directions-of problem.criteria m.profiles belongs.criteria) (thresholds-many k problem.criteria m.profiles belongs.thresholds) family_of
    (subst (λ c. IsClosed c family_of) (sym (length-map problem.criteria (λ (c : Criterion). direction_of c.scale))) (closed ws good n)) belongs.ordered
    (All-weaker (λ (e : Example). category (rule_of problem m) e.grades ≡ e.category) (λ (e : Example). category (record { profiles = profiles; coalitions = replicate k (family family_of) }) e.grades ≡ e.category) categories examples restored)
