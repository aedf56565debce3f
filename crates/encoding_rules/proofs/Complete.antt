-- A model that restores the examples gives values that make every clause true.
use Rattle.std.proofs.Common.{◌≡◌, ℕ, zero, suc, ◌+◌, ◌-◌, ◌<◌, ◌≤◌, ◌^◌, ℤ, Bool, true, false, ◌==◌, ◌&&◌, not, Option, None, Some, List, length, get_or, map, slice_get, refl, sym, ap, ◌∙◌, subst, arith, inl, inr}
use Rattle.std.specs.Prelude.{replicate}
use Rattle.std.specs.List.{Contains}
use Rattle.std.proofs.lemmas.Bool.{false≢true, and_parts, and_cases, not-true, not-false, eqb-true, eq-eqb}
use Rattle.std.proofs.lemmas.List.{length-map, get_or-map}
use Rattle.std.proofs.lemmas.List.Elements.{All-contains, Contains-get_or}
use Rattle.std.proofs.lemmas.List.Folds.{Any-from_list_any, list_any-from_Any}
use Rattle.sorting_rule.specs.Preference.{Direction, rising, is_as_good, accepts}
use Rattle.sorting_rule.specs.Coalition.{Coalitions, family, is_inside, is_sufficient, IsClosed}
use Rattle.sorting_rule.specs.Model.{Profile, Model, threshold_at, accepted_flags, accepted_set, is_reached, category, IsCategory}
use Rattle.sorting_rule.specs.Examples.{Example, Restores, HasOrderedThresholds, HasNoModel}
use Rattle.sorting_rule.proofs.Greatest.{IsCategory-category}
use Rattle.sorting_rule.proofs.Ordered.{accepted_below}
use Rattle.literals_core.specs.Values.{Satisfies, AreUnsatisfiable}
use Rattle.encoding_rules.specs.Task.{Task, IsTask, criteria, boundaries, direction_at, goods, bads, good_at, bad_at, nobody}
use Rattle.sorting_rule.specs.Rebuilt.{grade_on}
use Rattle.encoding_rules.specs.Ranks.{count_at, grade_at, rank}
use Rattle.encoding_rules.specs.Unknowns.{accepted, separated}
use Rattle.encoding_rules.specs.Separation.{separation_clauses}
use Rattle.encoding_rules.specs.Meaning.{IsNested, accepts_at}
use Rattle.sorting_rule.specs.Rebuilt.{no_profile}
use Rattle.encoding_rules.proofs.EachFacts.{some_or_none}
use Rattle.encoding_rules.proofs.RankFacts.{as_good_twice, one_as_good}
use Rattle.sorting_rule.proofs.MaskFacts.{inside_from_flags, mask_below}
use Rattle.encoding_rules.proofs.FlagFacts.{length_flags, flag_at}
use Rattle.encoding_rules.proofs.TaskFacts.{good_example, bad_example, rank_is, grade_rises}
use Rattle.encoding_rules.proofs.Values.{values_with, read_accepted, separations, read_separated}
use Rattle.encoding_rules.proofs.Clauses.{PairHolds, satisfied}

pub accepts_better : (d : Direction) (t : Option ℤ) (x y : ℤ) → is_as_good d y x ≡ true → accepts d t x ≡ true → accepts d t y ≡ true
accepts_better d None x y better h = h
accepts_better d (Some t) x y better h = as_good_twice d y x t better h

pub replicated : {X : Type 0} (n k : ℕ) (x y : X) → slice_get (replicate n x) k ≡ Some y → (k < n) × (y ≡ x)
replicated zero k x y e = absurd cc
replicated (suc n) zero x y e = (omega arith, cc)
replicated (suc n) (suc k) x y e = let rest = replicated n k x y e in (let lt = rest.0 in omega (arith, lt), rest.1)

pub has_replicated : {X : Type 0} (n k : ℕ) (x : X) → k < n → slice_get (replicate n x) k ≡ Some x
has_replicated zero k x lt = absurd (omega (arith, lt))
has_replicated (suc n) zero x lt = refl
has_replicated (suc n) (suc k) x lt = has_replicated n k x (omega (arith, lt))

pub in_family : (sets : List ℕ) (set : ℕ) → is_sufficient (family sets) set ≡ true → Contains sets set
in_family sets set h =
    let any = Any-from_list_any (λ member. member == set) sets h in
    let same : any.1 ≡ set = eqb-true any.1 set any.4 in
    subst (Contains sets) same (any.0, any.2, any.3)

pub family_has : (sets : List ℕ) (set : ℕ) → Contains sets set → is_sufficient (family sets) set ≡ true
family_has sets set (k, lt, e) = list_any-from_Any (λ member. member == set) sets (k, set, lt, e, eq-eqb set set refl)

module _ (task : Task) (fits : IsTask task) (profiles : List Profile) (shape : map (λ p. p.direction) profiles ≡ task.directions) where
  abbrev pub profile : ℕ → Profile
  profile i = get_or profiles i no_profile

  -- what the model accepts
  abbrev pub accepting : ℕ → ℕ → ℕ → Bool
  accepting i b k = accepts (profile i).direction (threshold_at (profile i) b) (grade_at task i k)

  pub size : length profiles ≡ criteria task
  unfolding criteria
  size = sym (length-map profiles (λ p. p.direction)) ∙ ap length shape

  same_direction : (i : ℕ) → i < criteria task → (profile i).direction ≡ direction_at task i
  unfolding direction_at
  same_direction i lt = sym (get_or-map (λ (p : Profile). p.direction) profiles i no_profile rising (omega (arith, lt, size))) ∙ ap (λ ds. get_or ds i rising) shape

  pub size_grades : (e : Example) → Contains task.examples e → length profiles ≡ length e.grades
  unfolding criteria
  size_grades e among = size ∙ sym (All-contains (λ e. length e.grades ≡ length task.directions) task.examples e fits.grades among)

  -- at an example's rank that is the flag of its accepted set
  pub example_flag : (i b : ℕ) (e : Example) → i < criteria task → Contains task.examples e → get_or (accepted_flags profiles b e.grades) i false ≡ accepting i b (rank task i e)
  unfolding grade_on
  example_flag i b e lt among =
      flag_at profiles b e.grades i (size_grades e among) (omega (arith, lt, size))
      ∙ ap (accepts (profile i).direction (threshold_at (profile i) b)) (sym (rank_is task i e among).1)

  module _ (values : ℕ → Bool) (reads : (i b k : ℕ) → i < criteria task → b < boundaries task → k < count_at task i → values (accepted task i b k) ≡ accepting i b k) where
    pub model_nested : (coalitions : List Coalitions) → HasOrderedThresholds (record { profiles = profiles; coalitions = coalitions }) → IsNested task values
    model_nested coalitions ordered = record {
      better = λ i b k li lb lk h.
          let here = sym (reads i b k li lb (omega (arith, lk))) ∙ h in
          let rises = one_as_good (direction_at task i) (grade_at task i k) (grade_at task i (k + 1)) (grade_rises task i k (k + 1) (omega arith) lk) in
          reads i b (k + 1) li lb lk ∙ accepts_better (profile i).direction (threshold_at (profile i) b) (grade_at task i k) (grade_at task i (k + 1))
          (subst (λ d. is_as_good d (grade_at task i (k + 1)) (grade_at task i k) ≡ true) (sym (same_direction i li)) rises) here;
      lower = λ i b k li lb lk h.
          let here = sym (reads i (b + 1) k li lb lk) ∙ h in
          reads i b k li (omega (arith, lb)) lk ∙ accepted_below (record { profiles = profiles; coalitions = coalitions }) (profile i) b (b + 1) (grade_at task i k) ordered
          (Contains-get_or profiles i no_profile (omega (arith, li, size))) (omega arith) here;
    }

  module _ (sets : List ℕ) (closed : IsClosed (length task.directions) sets) where
    abbrev pub model : Model
    model = record { profiles = profiles; coalitions = replicate (task.categories - 1) (family sets) }

    -- an example of a category from 1 on has its own accepted set in the family
    pub own_in : (g : Example) → category model g.grades ≡ g.category → 1 ≤ g.category → Contains sets (accepted_set profiles (g.category - 1) g.grades)
    own_in g restored le =
        let rule : IsCategory model g.grades g.category = subst (IsCategory model g.grades) restored (IsCategory-category model g.grades) in
        elim rule.reached [
          | inl none ↦ absurd (omega (arith, none, le))
          | inr r ↦ in_family sets (accepted_set profiles (g.category - 1) g.grades)
              (subst (λ c. is_sufficient c (accepted_set profiles (g.category - 1) g.grades) ≡ true) (replicated (task.categories - 1) (g.category - 1) (family sets) r.1.0 r.1.1).1 r.1.2)
        ]

    -- and one below the best has not its accepted set at the boundary above
    pub above_out : (e : Example) → category model e.grades ≡ e.category → e.category + 1 < task.categories → Contains sets (accepted_set profiles e.category e.grades) → ⊥
    above_out e restored lt among =
        let rule : IsCategory model e.grades e.category = subst (IsCategory model e.grades) restored (IsCategory-category model e.grades) in
        let place : e.category ≡ e.category + 1 - 1 = omega arith in
        rule.greatest (e.category + 1) (omega arith) (
          family sets,
          has_replicated (task.categories - 1) (e.category + 1 - 1) (family sets) (omega (arith, lt)),
          subst (λ b. is_reached profiles b (family sets) e.grades ≡ true) place (family_has sets (accepted_set profiles e.category e.grades) among),
        )

    -- so some criterion accepts the one and not the other
    model_apart : (g e : Example) → Restores model task.examples → Contains (goods task) g → Contains (bads task) e
        → (i : ℕ) × (i < criteria task) × (accepting i (g.category - 1) (rank task i g) ≡ true) × (accepting i e.category (rank task i e) ≡ false)
    unfolding criteria
    model_apart g e restores in_g in_e =
        let is_g = good_example task g in_g in
        let is_e = bad_example task e in_e in
        let f : ℕ → Bool = λ i. accepting i (g.category - 1) (rank task i g) && not (accepting i e.category (rank task i e)) in
        let same_size : length (accepted_flags profiles (g.category - 1) g.grades) ≡ length profiles = length_flags profiles (g.category - 1) g.grades (size_grades g is_g.0) in
        let other_size : length (accepted_flags profiles e.category e.grades) ≡ length profiles = length_flags profiles e.category e.grades (size_grades e is_e.0) in
        elim (some_or_none f (criteria task)) [
          | inl some ↦ (let parts = and_parts (accepting some.0 (g.category - 1) (rank task some.0 g)) (not (accepting some.0 e.category (rank task some.0 e))) some.2 in
              (some.0, some.1, parts.0, not-true (accepting some.0 e.category (rank task some.0 e)) parts.1))
          | inr none ↦ absurd (
              let in_own = own_in g (All-contains (λ e. category model e.grades ≡ e.category) task.examples g restores is_g.0) is_g.1 in
              let inside : is_inside (accepted_set profiles (g.category - 1) g.grades) (accepted_set profiles e.category e.grades) ≡ true =
              inside_from_flags (accepted_flags profiles (g.category - 1) g.grades) (accepted_flags profiles e.category e.grades) (same_size ∙ sym other_size) (λ i lt set.
              let li : i < criteria task = omega (arith, lt, same_size, size) in
              let is_set = sym (example_flag i (g.category - 1) g li is_g.0) ∙ set in
              example_flag i e.category e li is_e.0 ∙ elim (and_cases (accepting i (g.category - 1) (rank task i g)) (not (accepting i e.category (rank task i e))) (none i li)) [
                | inl off ↦ absurd (false≢true (sym off ∙ is_set))
                | inr off ↦ not-false (accepting i e.category (rank task i e)) off
              ]) in
              let small : accepted_set profiles e.category e.grades < 2 ^ length task.directions =
              subst (λ n. accepted_set profiles e.category e.grades < 2 ^ n) (other_size ∙ size) (mask_below (accepted_flags profiles e.category e.grades)) in
              above_out e (All-contains (λ e. category model e.grades ≡ e.category) task.examples e restores is_e.0) is_e.1
              (closed (accepted_set profiles (g.category - 1) g.grades) (accepted_set profiles e.category e.grades) in_own small inside))
        ]

    abbrev separating : ℕ → ℕ → ℕ → Bool
    separating a b i = let g = good_at task a in let e = bad_at task b in accepting i (g.category - 1) (rank task i g) && not (accepting i e.category (rank task i e))

    abbrev model_values : ℕ → Bool
    model_values = values_with task accepting (separations task accepting separating)

    model_reads : (i b k : ℕ) → i < criteria task → b < boundaries task → k < count_at task i → model_values (accepted task i b k) ≡ accepting i b k
    model_reads i b k li lb lk = read_accepted task accepting (separations task accepting separating) i b k li lb lk

    pub good_boundary : (g : Example) → Contains (goods task) g → g.category - 1 < boundaries task
    unfolding boundaries
    good_boundary g among =
        let is = good_example task g among in
        let lt = All-contains (λ e. e.category < task.categories) task.examples g fits.categories is.0 in
        let le = is.1 in
        omega (arith, lt, le)

    pub bad_boundary : (e : Example) → Contains (bads task) e → e.category < boundaries task
    unfolding boundaries
    bad_boundary e among = let is = bad_example task e among in let lt = is.1 in omega (arith, lt)

    pub good_among : (a : ℕ) → a < length (goods task) → Contains (goods task) (good_at task a)
    unfolding good_at
    good_among a lt = Contains-get_or (goods task) a nobody lt

    pub bad_among : (b : ℕ) → b < length (bads task) → Contains (bads task) (bad_at task b)
    unfolding bad_at
    bad_among b lt = Contains-get_or (bads task) b nobody lt

    model_pairs : Restores model task.examples → (a b : ℕ) → a < length (goods task) → b < length (bads task) → PairHolds task model_values a b
    model_pairs restores a b la lb =
        let g : Example = good_at task a in
        let e : Example = bad_at task b in
        let in_g = good_among a la in
        let in_e = bad_among b lb in
        let read_good : (i : ℕ) → i < criteria task → accepts_at task model_values i (g.category - 1) g ≡ accepting i (g.category - 1) (rank task i g) =
        λ i li. model_reads i (g.category - 1) (rank task i g) li (good_boundary g in_g) (rank_is task i g (good_example task g in_g).0).0 in
        let read_bad : (i : ℕ) → i < criteria task → accepts_at task model_values i e.category e ≡ accepting i e.category (rank task i e) =
        λ i li. model_reads i e.category (rank task i e) li (bad_boundary e in_e) (rank_is task i e (bad_example task e in_e).0).0 in
        let read_pair : (i : ℕ) → i < criteria task → model_values (separated task a b i) ≡ separating a b i = λ i li. read_separated task accepting separating a b i la lb li in
        let found = model_apart g e restores in_g in_e in
        record {
          good = λ i li h. read_good i li ∙ (and_parts (accepting i (g.category - 1) (rank task i g)) (not (accepting i e.category (rank task i e))) (sym (read_pair i li) ∙ h)).0;
          bad = λ i li h. read_bad i li ∙ not-true (accepting i e.category (rank task i e)) (and_parts (accepting i (g.category - 1) (rank task i g)) (not (accepting i e.category (rank task i e))) (sym (read_pair i li) ∙ h)).1;
          some = (found.0, found.1, read_pair found.0 found.1 ∙ both found.2 found.3);
        }
      where
        both : {p q : Bool} → p ≡ true → q ≡ false → (p && not q) ≡ true
        both {p} {q} h k = ap (λ x. x && not q) h ∙ ap not k

    pub values_of_model : HasOrderedThresholds model → Restores model task.examples → Satisfies model_values (separation_clauses task)
    values_of_model ordered restores = satisfied task model_values (model_nested model_values model_reads (replicate (task.categories - 1) (family sets)) ordered) (model_pairs restores)

pub no_model : (task : Task) → IsTask task → AreUnsatisfiable (separation_clauses task) → HasNoModel task.directions task.categories task.examples
no_model task fits none = λ profiles shape sizes sets closed ordered restores.
    none (model_values task fits profiles shape sets closed) (values_of_model task fits profiles shape sets closed ordered restores)
