-- A rebuilt model in words of the rule, and that it belongs to its problem.
use Rattle.std.proofs.Common.{◌≡◌, ℕ, zero, suc, ◌+◌, ◌^◌, ◌<◌, ◌≤◌, ℤ, pos, List, [], ◌∷◌, length, map, get_or, Option, None, Some, refl, sym, ap, ◌∙◌, subst, arith}
use Rattle.std.specs.Prelude.{replicate, slice_index, slice_index_or}
use Rattle.std.specs.List.{All, AllZip, Contains}
use Rattle.std.specs.List.Sorted.{IsStrictlyIncreasing}
use Rattle.std.proofs.lemmas.List.{length-map, length-replicate, get_or-replicate, get_or-map, get_or_default}
use Rattle.std.proofs.lemmas.List.Elements.{All-contains}
use Rattle.std.proofs.Math.Pow.{pow_mono}
use Rattle.sorting_rule.specs.Preference.{Direction, rising}
use Rattle.sorting_rule.specs.Coalition as coalition
use Rattle.sorting_rule.specs.Model as rule
use Rattle.sorting_rule.specs.Examples.{Example}
use Rattle.sorting_rule.specs.Rebuilt.{grade_on, no_profile, AreMinimal, Learns}
use Rattle.problem_core.specs.Grade.{direction_of, IsGrade}
use Rattle.problem_core.specs.Problem.{ProblemValue}
use Rattle.problem_core.specs.declared.criterion.Criterion.{Criterion}
use Rattle.problem_core.specs.declared.criterion.Scale.{Scale}
use Rattle.table_core.specs.Examples.{no_example, BelongTo}
use Rattle.encoding_rules.specs.Each.{listed}
use Rattle.encoding_rules.specs.Task.{Task, criteria, boundaries, direction_at}
use Rattle.encoding_rules.proofs.EachFacts.{length-listed, listed_at}
use Rattle.ranks_core.specs.Ranks.{task_of}
use Rattle.model_core.specs.declared.model.Coalitions.{Coalitions}
use Rattle.model_core.specs.declared.model.Coalitions.TheVariants.{Roots}
use Rattle.model_core.specs.declared.model.Profile.{Profile}
use Rattle.model_core.specs.Model.{ModelValue, profiles_of, sufficient_by, boundaries_of, rule_of, IsThreshold, AreCoalitions, Belongs}

-- lists of the same length with the same items
pub same_items : {A : Type 0} (xs ys : List A) → length xs ≡ length ys → ((i : ℕ) (d : A) → i < length xs → get_or xs i d ≡ get_or ys i d) → xs ≡ ys
same_items [] [] e h = refl
same_items [] (y ∷ ys) e h = absurd (omega (arith, e))
same_items (x ∷ xs) [] e h = absurd (omega (arith, e))
same_items (x ∷ xs) (y ∷ ys) e h =
    ap (λ z. z ∷ xs) (h 0 x (omega arith)) ∙ ap (λ zs. y ∷ zs) (same_items xs ys (omega (arith, e)) (λ i d lt. h (suc i) d (omega (arith, lt))))

-- what is made of each copy
map-replicate : {A B : Type 0} (f : A → B) (n : ℕ) (x : A) → map f (replicate n x) ≡ replicate n (f x)
map-replicate f zero x = refl
map-replicate f (suc n) x = ap (λ ys. f x ∷ ys) (map-replicate f n x)

-- ---- thresholds

abbrev pub thresholds_of : Profile → List (Option ℤ)
thresholds_of p = p.thresholds

abbrev direction : Criterion → Direction
direction c = direction_of c.scale

-- a criterion with its row of thresholds
abbrev pub profile_of : Task → List (List (Option ℤ)) → ℕ → rule.Profile
profile_of task rows i = record { direction = direction_at task i; thresholds = get_or rows i [] }

-- the model with these thresholds, a row a criterion, and with these roots at each boundary
abbrev pub model_of : Task → List (List (Option ℤ)) → List ℕ → rule.Model
model_of task rows rs = record { profiles = listed (profile_of task rows) (criteria task); coalitions = replicate (boundaries task) (coalition.roots rs) }

length-profiles : (cs : List Criterion) (ps : List Profile) → length ps ≡ length cs → length (profiles_of cs ps) ≡ length cs
length-profiles [] ps e = refl
length-profiles (c ∷ cs) [] e = absurd (omega (arith, e))
length-profiles (c ∷ cs) (p ∷ ps) e = let rest = length-profiles cs ps (omega (arith, e)) in omega (arith, rest)

profile_at : (cs : List Criterion) (ps : List Profile) (i : ℕ) (d : rule.Profile) → length ps ≡ length cs → i < length cs
    → get_or (profiles_of cs ps) i d ≡ record { direction = get_or (map direction cs) i rising; thresholds = get_or (map thresholds_of ps) i [] }
profile_at [] ps i d e lt = absurd (omega (arith, lt))
profile_at (c ∷ cs) [] i d e lt = absurd (omega (arith, e))
profile_at (c ∷ cs) (p ∷ ps) zero d e lt = refl
profile_at (c ∷ cs) (p ∷ ps) (suc i) d e lt = profile_at cs ps i d (omega (arith, e)) (omega (arith, lt))

-- ---- grades

-- a grade is one of the scale of the criterion at a place, if there is one
abbrev AtScale : List Criterion → ℕ → ℤ → Type 0
AtScale [] i t = Unit {0}
AtScale (c ∷ cs) zero t = IsGrade c.scale t
AtScale (c ∷ cs) (suc i) t = AtScale cs i t

at_scale : (cs : List Criterion) (grades : List ℤ) (i : ℕ) (t : ℤ) → AllZip (λ criterion grade. IsGrade criterion.scale grade) cs grades → get_or grades i (pos 0) ≡ t → AtScale cs i t
at_scale [] grades i t h e = tt
at_scale (c ∷ cs) [] i t h e = absurd h
at_scale (c ∷ cs) (g ∷ gs) zero t h e = subst (IsGrade c.scale) e h.0
at_scale (c ∷ cs) (g ∷ gs) (suc i) t h e = at_scale cs gs i t h.1 e

threshold_is : (scale : Scale) (ts : List (Option ℤ)) → ((t : ℤ) → Contains ts (Some t) → IsGrade scale t) → (k : ℕ) (d : Option ℤ) → k < length ts → (o : Option ℤ) → get_or ts k d ≡ o → IsThreshold scale (get_or ts k d)
threshold_is scale ts h k d lt None e = subst (IsThreshold scale) (sym e) tt
threshold_is scale ts h k d lt (Some t) e = subst (IsThreshold scale) (sym e) (h t (k, lt, get_or_default ts k (Some t) d lt ∙ e))

grades_are : (cs : List Criterion) (ps : List Profile) → length ps ≡ length cs
    → ((i : ℕ) (t : ℤ) → Contains (slice_index_or (profiles_of cs ps) i no_profile).thresholds (Some t) → AtScale cs i t)
    → AllZip (λ criterion p. All (IsThreshold criterion.scale) p.thresholds) cs ps
grades_are [] [] e h = tt
grades_are [] (p ∷ ps) e h = absurd (omega (arith, e))
grades_are (c ∷ cs) [] e h = absurd (omega (arith, e))
grades_are (c ∷ cs) (p ∷ ps) e h =
    (λ k d lt. threshold_is c.scale p.thresholds (λ t among. h 0 t among) k d lt (get_or p.thresholds k d) refl, grades_are cs ps (omega (arith, e)) (λ i t among. h (suc i) t among))

-- ---- roots

-- numbers that rise strictly are no less than their places
no_less : (xs : List ℕ) → IsStrictlyIncreasing xs → (k : ℕ) → k < length xs → k ≤ slice_index xs k
no_less xs up zero lt = omega arith
no_less xs up (suc k) lt =
    let rest = no_less xs up k (omega (arith, lt)) in
    let next : k + 1 ≡ suc k = omega arith in
    let more : slice_index xs k < slice_index xs (suc k) = subst (λ n. slice_index xs k < slice_index xs n) next (up k (omega (arith, lt))) in
    omega (arith, rest, more)

-- so there are few of them
rising_few : (xs : List ℕ) (m : ℕ) → IsStrictlyIncreasing xs → All (λ x. x < m) xs → length xs ≤ m
rising_few [] m up below = omega arith
rising_few (x ∷ xs) m up below =
    let last : ℕ = length xs in
    let lt : last < length (x ∷ xs) = omega arith in
    let high = no_less (x ∷ xs) up last lt in
    let low : get_or (x ∷ xs) last 0 < m = below last 0 lt in
    omega (arith, high, low)

-- roots that are minimal among sets are below what the sets are below
pub roots_below : (sets rs : List ℕ) (m : ℕ) → AreMinimal sets rs → All (λ set. set < m) sets → All (λ root. root < m) rs
roots_below sets rs m are below = λ k d lt.
    All-contains (λ set. set < m) sets (get_or rs k d) below (((are.which (get_or rs k d)).0 (k, lt, get_or_default rs k (get_or rs k d) d lt)).0)

pub roots_few : (sets rs : List ℕ) (n : ℕ) → n ≤ 16 → AreMinimal sets rs → All (λ root. root < 2 ^ n) rs → length rs ≤ 65536
roots_few sets rs n le are below =
    let few = rising_few rs (2 ^ n) are.rises below in
    let wide : 2 ^ n ≤ 65536 = pow_mono le in
    omega (arith, few, wide)

-- ---- the model

module _ (problem : ProblemValue) (examples : List Example) (profiles : List Profile) (coalitions : List Coalitions) (rs : List ℕ) where
  abbrev task : Task
  task = task_of problem examples

  abbrev rows : List (List (Option ℤ))
  rows = map thresholds_of profiles

  abbrev pub made : ModelValue
  made = record { profiles = profiles; coalitions = coalitions }

  -- what the parts of the model are
  pub record AreParts : Type 0 where
    pub learns : Learns examples (model_of task rows rs)
    pub many : length profiles ≡ length problem.criteria
    pub widths : All (λ p. length p.thresholds ≡ boundaries_of problem) profiles
    pub same : coalitions ≡ replicate (boundaries_of problem) (Roots rs)
    pub below : All (λ root. root < 2 ^ length problem.criteria) rs
    pub few : length rs ≤ 65536

  module _ (are : AreParts) where
    profiles_are : profiles_of problem.criteria profiles ≡ listed (profile_of task rows) (criteria task)
    unfolding criteria direction_at
    profiles_are =
        let wide : length task.directions ≡ length problem.criteria = length-map problem.criteria direction in
        let size = length-profiles problem.criteria profiles are.many in
        let other = length-listed (profile_of task rows) (length task.directions) in
        same_items (profiles_of problem.criteria profiles) (listed (profile_of task rows) (length task.directions)) (omega (arith, wide, size, other)) (λ i d lt.
        profile_at problem.criteria profiles i d are.many (omega (arith, lt, size)) ∙ sym (listed_at (profile_of task rows) (length task.directions) i d (omega (arith, lt, size, wide))))

    coalitions_are : map sufficient_by coalitions ≡ replicate (boundaries task) (coalition.roots rs)
    unfolding boundaries
    coalitions_are = ap (map sufficient_by) are.same ∙ map-replicate sufficient_by (boundaries_of problem) (Roots rs)

    rule_is : rule_of problem made ≡ model_of task rows rs
    rule_is =
        let with_profiles : List rule.Profile → rule.Model = λ ps. record { profiles = ps; coalitions = map sufficient_by coalitions } in
        let with_coalitions : List coalition.Coalitions → rule.Model = λ cs. record { profiles = listed (profile_of task rows) (criteria task); coalitions = cs } in
        ap with_profiles profiles_are ∙ ap with_coalitions coalitions_are

    pub made_learns : Learns examples (rule_of problem made)
    made_learns = subst (Learns examples) (sym rule_is) are.learns

    observed : BelongTo problem examples → (i : ℕ) (t : ℤ) → Contains (slice_index_or (profiles_of problem.criteria profiles) i no_profile).thresholds (Some t) → AtScale problem.criteria i t
    unfolding grade_on
    observed belong i t among =
        let seen = made_learns.form.observed i t among in
        let k : ℕ = seen.0 in
        let size = length-map examples (grade_on i) in
        let bound = seen.1 in
        let lt : k < length examples = omega (arith, size, bound) in
        at_scale problem.criteria (get_or examples k no_example).grades i t (belong.grades k no_example lt) (sym (get_or-map (grade_on i) examples k no_example t lt) ∙ seen.2)

    coalitions_belong : All (AreCoalitions (length problem.criteria)) coalitions
    coalitions_belong = subst (All (AreCoalitions (length problem.criteria))) (sym are.same) (λ k d lt.
        let size = length-replicate (boundaries_of problem) (Roots rs) in
        let few = are.few in
        subst (AreCoalitions (length problem.criteria)) (sym (get_or-replicate (boundaries_of problem) k (Roots rs) d (omega (arith, lt, size)))) (omega (arith, few), are.below))

    pub made_belongs : BelongTo problem examples → Belongs problem made
    made_belongs belong = record {
      criteria = are.many;
      thresholds = are.widths;
      grades = grades_are problem.criteria profiles are.many (observed belong);
      ordered = made_learns.ordered;
      boundaries = ap length are.same ∙ length-replicate (boundaries_of problem) (Roots rs);
      coalitions = coalitions_belong;
    }
