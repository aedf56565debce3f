-- Nested values that set the examples apart give a model in rebuilt form that restores them.
use Rattle.std.proofs.Common.{◌≡◌, ℕ, zero, suc, ◌+◌, ◌-◌, ◌<◌, ◌≤◌, ℤ, pos, Bool, true, false, cond, Option, None, Some, List, [], ◌∷◌, length, get_or, map, refl, sym, ap, ◌∙◌, subst, arith, inl, inr}
use Rattle.std.specs.Prelude.{replicate}
use Rattle.std.specs.Option.{option_and_then}
use Rattle.std.specs.List.{All, AllPairs, Contains}
use Rattle.std.proofs.lemmas.Bool.{cases_Bool, cases_lt, false≢true, and_from}
use Rattle.std.proofs.lemmas.List.{length-replicate, get_or_past, ext_get_or}
use Rattle.std.proofs.lemmas.List.Elements.{All-contains, All-head, All-tail, Contains-get_or}
use Rattle.std.proofs.lemmas.Option.{slice_get-get_or}
use Rattle.literals_core.proofs.Members.{Contains-first, Contains-later, Contains-none}
use Rattle.sorting_rule.specs.Preference.{Direction, is_as_good, accepts, is_step, are_ordered_after, are_ordered}
use Rattle.sorting_rule.specs.Coalition.{Coalitions, roots, is_inside, is_sufficient}
use Rattle.sorting_rule.specs.Model.{Profile, threshold_at, accepted_flags, accepted_set, is_reached, category, Reaches}
use Rattle.sorting_rule.specs.Examples.{Example, Restores, HasOrderedThresholds}
use Rattle.sorting_rule.proofs.Greatest.{category-only}
use Rattle.encoding_rules.specs.Each.{listed}
use Rattle.encoding_rules.specs.Task.{Task, IsTask, criteria, boundaries, direction_at, goods}
use Rattle.sorting_rule.specs.Rebuilt.{grade_on}
use Rattle.encoding_rules.specs.Ranks.{ranked, count_at, grade_at, rank}
use Rattle.encoding_rules.specs.Unknowns.{accepted}
use Rattle.encoding_rules.specs.Meaning.{IsNested, accepts_at, SetsApart}
use Rattle.encoding_rules.specs.Rebuilt.{first_passing, rebuilt_threshold, rebuilt_profile, rebuilt_profiles, rebuilt}
use Rattle.sorting_rule.specs.Rebuilt.{own_sets, AreMinimal, no_profile, IsRebuilt}
use Rattle.encoding_rules.proofs.EachFacts.{length-listed, listed_at, listed_all}
use Rattle.encoding_rules.proofs.RankFacts.{as_good_itself, one_as_good}
use Rattle.sorting_rule.proofs.MaskFacts.{flags_from_inside}
use Rattle.sorting_rule.proofs.MinimalFacts.{root_below, some_inside, inside_some}
use Rattle.encoding_rules.proofs.FlagFacts.{length_flags, flag_at}
use Rattle.encoding_rules.proofs.TaskFacts.{good_example, example_good, example_bad, rank_is, ranked_rises, ranked_observed, map_has, map_had}
use Rattle.encoding_rules.proofs.Complete.{replicated, has_replicated}

-- ---- the first grade that passes

module _ (d : Direction) where
  abbrev Below : ℤ → ℤ → Type 0
  Below x y = is_as_good d x y ≡ false

  passing_by : (f : ℕ → Bool) (k : ℕ) (x : ℤ) (xs : List ℤ) (b : Bool) → f k ≡ b → first_passing f k (x ∷ xs) ≡ cond b (Some x) (first_passing f (k + 1) xs)
  passing_by f k x xs b e = ap (λ c. cond c (Some x) (first_passing f (k + 1) xs)) e

  -- a grade below all of them is not accepted
  below_first : (f : ℕ → Bool) (k : ℕ) (x : ℤ) (ys : List ℤ) → All (Below x) ys → accepts d (first_passing f k ys) x ≡ false
  below_first f k x [] all = refl
  below_first f k x (y ∷ ys) all = elim (cases_Bool (f k)) [
    | inl e ↦ ap (λ t. accepts d t x) (passing_by f k y ys true e) ∙ All-head (Below x) y ys all
    | inr e ↦ ap (λ t. accepts d t x) (passing_by f k y ys false e) ∙ below_first f (k + 1) x ys (All-tail (Below x) y ys all)
  ]

  pairs_head : (x : ℤ) (xs : List ℤ) → AllPairs Below (x ∷ xs) → All (Below x) xs
  pairs_head x xs h = λ j e below. h 0 (suc j) e (omega arith) (omega (arith, below))

  pairs_tail : (x : ℤ) (xs : List ℤ) → AllPairs Below (x ∷ xs) → AllPairs Below xs
  pairs_tail x xs h = λ i j e lt below. h (suc i) (suc j) e (omega (arith, lt)) (omega (arith, below))

  abbrev StaysFrom : (ℕ → Bool) → ℕ → ℕ → Type 0
  StaysFrom f k n = (j : ℕ) → j + 1 < n → f (k + j) ≡ true → f (k + j + 1) ≡ true

  stays : (f : ℕ → Bool) (k n r : ℕ) → StaysFrom f k n → f k ≡ true → r < n → f (k + r) ≡ true
  stays f k n zero h e lt = subst (λ m. f m ≡ true) (omega arith) e
  stays f k n (suc r) h e lt = subst (λ m. f m ≡ true) (omega arith) (h r (omega (arith, lt)) (stays f k n r h e (omega (arith, lt))))

  stays_later : (f : ℕ → Bool) (k n : ℕ) → StaysFrom f k (suc n) → StaysFrom f (k + 1) n
  stays_later f k n h = λ j lt e.
      let here : k + 1 + j ≡ k + (j + 1) = omega arith in
      subst (λ m. f m ≡ true) (omega arith) (h (j + 1) (omega (arith, lt)) (subst (λ m. f m ≡ true) here e))

  -- the first grade that passes accepts exactly those that pass, if better ones than one that passes do too
  first_accepts : (f : ℕ → Bool) (k : ℕ) (ys : List ℤ) (r : ℕ) → AllPairs Below ys → StaysFrom f k (length ys) → r < length ys → accepts d (first_passing f k ys) (get_or ys r (pos 0)) ≡ f (k + r)
  first_accepts f k [] r rises h lt = absurd (omega (arith, lt))
  first_accepts f k (y ∷ ys) zero rises h lt =
      let at : f k ≡ f (k + 0) = ap f (omega arith) in
      elim (cases_Bool (f k)) [
        | inl e ↦ ap (λ t. accepts d t y) (passing_by f k y ys true e) ∙ as_good_itself d y ∙ sym e ∙ at
        | inr e ↦ ap (λ t. accepts d t y) (passing_by f k y ys false e) ∙ below_first f (k + 1) y ys (pairs_head y ys rises) ∙ sym e ∙ at
      ]
  first_accepts f k (y ∷ ys) (suc r) rises h lt =
      let z : ℤ = get_or ys r (pos 0) in
      elim (cases_Bool (f k)) [
        | inl e ↦ ap (λ t. accepts d t z) (passing_by f k y ys true e) ∙ one_as_good d y z (pairs_head y ys rises r (pos 0) (omega (arith, lt))) ∙ sym (stays f k (length (y ∷ ys)) (suc r) h e lt)
        | inr e ↦ ap (λ t. accepts d t z) (passing_by f k y ys false e) ∙ first_accepts f (k + 1) ys r (pairs_tail y ys rises) (stays_later f k (length ys) h) (omega (arith, lt)) ∙ ap f (omega arith)
      ]

  -- if less passes, the first is no worse
  step_above : (g : ℕ → Bool) (k : ℕ) (x : ℤ) (ys : List ℤ) → All (Below x) ys → is_step d (Some x) (first_passing g k ys) ≡ true
  step_above g k x [] all = refl
  step_above g k x (y ∷ ys) all = elim (cases_Bool (g k)) [
    | inl e ↦ ap (is_step d (Some x)) (passing_by g k y ys true e) ∙ one_as_good d x y (All-head (Below x) y ys all)
    | inr e ↦ ap (is_step d (Some x)) (passing_by g k y ys false e) ∙ step_above g (k + 1) x ys (All-tail (Below x) y ys all)
  ]

  first_steps : (f g : ℕ → Bool) (k : ℕ) (ys : List ℤ) → AllPairs Below ys → ((j : ℕ) → j < length ys → g (k + j) ≡ true → f (k + j) ≡ true) → is_step d (first_passing f k ys) (first_passing g k ys) ≡ true
  first_steps f g k [] rises h = refl
  first_steps f g k (y ∷ ys) rises h =
      let later : (j : ℕ) → j < length ys → g (k + 1 + j) ≡ true → f (k + 1 + j) ≡ true = λ j lt e.
      (let at : k + suc j ≡ k + 1 + j = omega arith in subst (λ m. f m ≡ true) at (h (suc j) (omega (arith, lt)) (subst (λ m. g m ≡ true) (sym at) e))) in
      let here : g k ≡ true → f k ≡ true = λ e. (let at : k + 0 ≡ k = omega arith in subst (λ m. f m ≡ true) at (h 0 (omega arith) (subst (λ m. g m ≡ true) (sym at) e))) in
      elim (cases_Bool (f k)) [
        | inl e ↦ ap (λ t. is_step d t (first_passing g k (y ∷ ys))) (passing_by f k y ys true e) ∙ elim (cases_Bool (g k)) [
          | inl o ↦ ap (is_step d (Some y)) (passing_by g k y ys true o) ∙ as_good_itself d y
          | inr o ↦ ap (is_step d (Some y)) (passing_by g k y ys false o) ∙ step_above g (k + 1) y ys (pairs_head y ys rises)
        ]
        | inr e ↦ ap (λ t. is_step d t (first_passing g k (y ∷ ys))) (passing_by f k y ys false e) ∙ elim (cases_Bool (g k)) [
          | inl o ↦ absurd (false≢true (sym e ∙ here o))
          | inr o ↦ ap (is_step d (first_passing f (k + 1) ys)) (passing_by g k y ys false o) ∙ first_steps f g (k + 1) ys (pairs_tail y ys rises) later
        ]
      ]

  -- it is one of them
  first_among : (f : ℕ → Bool) (k : ℕ) (ys : List ℤ) (t : ℤ) → first_passing f k ys ≡ Some t → Contains ys t
  first_among f k [] t e = absurd cc
  first_among f k (y ∷ ys) t e = elim (cases_Bool (f k)) [
    | inl o ↦ (let some : Some y ≡ Some t = sym (passing_by f k y ys true o) ∙ e in let same : y ≡ t = cc in subst (Contains (y ∷ ys)) same (Contains-first y ys))
    | inr o ↦ Contains-later y t ys (first_among f (k + 1) ys t (sym (passing_by f k y ys false o) ∙ e))
  ]

  -- thresholds are ordered if each is no better than the next
  ordered_after : (t : Option ℤ) (ts : List (Option ℤ)) → ((b : ℕ) → b < length ts → is_step d (get_or (t ∷ ts) b None) (get_or ts b None) ≡ true) → are_ordered_after d t ts ≡ true
  ordered_after t [] h = refl
  ordered_after t (u ∷ us) h = and_from (is_step d t u) (are_ordered_after d u us) (h 0 (omega arith)) (ordered_after u us (λ b lt. h (suc b) (omega (arith, lt))))

  ordered_from : (ts : List (Option ℤ)) → ((b : ℕ) → b + 1 < length ts → is_step d (get_or ts b None) (get_or ts (b + 1) None) ≡ true) → are_ordered d ts ≡ true
  ordered_from [] h = refl
  ordered_from (t ∷ ts) h = ordered_after t ts (λ b lt. let next : b + 1 ≡ suc b = omega arith in subst (λ m. is_step d (get_or (t ∷ ts) b None) (get_or (t ∷ ts) m None) ≡ true) next (h b (omega (arith, lt))))

some_root : (rs : List ℕ) (set : ℕ) → is_sufficient (roots rs) set ≡ true → (root : ℕ) × Contains rs root × (is_inside root set ≡ true)
some_root rs set h = some_inside rs set h

root_suffices : (rs : List ℕ) (set root : ℕ) → Contains rs root → is_inside root set ≡ true → is_sufficient (roots rs) set ≡ true
root_suffices rs set root among inside = inside_some rs set root among inside

-- ---- the model

module _ (task : Task) (fits : IsTask task) (values : ℕ → Bool) (nested : IsNested task values) where
  abbrev profiles : List Profile
  profiles = rebuilt_profiles task values

  size : length profiles ≡ criteria task
  unfolding rebuilt_profiles
  size = length-listed (rebuilt_profile task values) (criteria task)

  profile_is : (i : ℕ) → i < criteria task → get_or profiles i no_profile ≡ rebuilt_profile task values i
  unfolding rebuilt_profiles
  profile_is i lt = listed_at (rebuilt_profile task values) (criteria task) i no_profile lt

  size_grades : (e : Example) → Contains task.examples e → length profiles ≡ length e.grades
  unfolding criteria
  size_grades e among = size ∙ sym (All-contains (λ e. length e.grades ≡ length task.directions) task.examples e fits.grades among)

  threshold_is : (i b : ℕ) → b < boundaries task → threshold_at (rebuilt_profile task values i) b ≡ rebuilt_threshold task values i b
  threshold_is i b lt =
      let ts : List (Option ℤ) = listed (rebuilt_threshold task values i) (boundaries task) in
      let many = length-listed (rebuilt_threshold task values i) (boundaries task) in
      ap (option_and_then (λ (t : Option ℤ). t)) (slice_get-get_or ts b None (omega (arith, lt, many))) ∙ listed_at (rebuilt_threshold task values i) (boundaries task) b None lt

  stays_nested : (i b : ℕ) → i < criteria task → b < boundaries task → (j : ℕ) → j + 1 < length (ranked task i) → values (accepted task i b (0 + j)) ≡ true → values (accepted task i b (0 + j + 1)) ≡ true
  unfolding count_at
  stays_nested i b li lb j lt h =
      let at : 0 + j ≡ j = omega arith in
      subst (λ m. values (accepted task i b (m + 1)) ≡ true) (sym at) (nested.better i b j li lb lt (subst (λ m. values (accepted task i b m) ≡ true) at h))

  -- the flags of an example's accepted set are the values at its ranks
  flag_is : (i b : ℕ) (e : Example) → i < criteria task → b < boundaries task → Contains task.examples e → get_or (accepted_flags profiles b e.grades) i false ≡ accepts_at task values i b e
  unfolding grade_at grade_on count_at
  flag_is i b e li lb among =
      let at = rank_is task i e among in
      let r : ℕ = rank task i e in
      flag_at profiles b e.grades i (size_grades e among) (omega (arith, li, size))
      ∙ ap (λ (p : Profile). accepts p.direction (threshold_at p b) (get_or e.grades i (pos 0))) (profile_is i li)
      ∙ ap (λ t. accepts (direction_at task i) t (get_or e.grades i (pos 0))) (threshold_is i b lb)
      ∙ ap (accepts (direction_at task i) (rebuilt_threshold task values i b)) (sym at.1)
      ∙ first_accepts (direction_at task i) (λ k. values (accepted task i b k)) 0 (ranked task i) r (ranked_rises task i) (stays_nested i b li lb) at.0
      ∙ ap (λ k. values (accepted task i b k)) (omega arith)

  -- so its flags are the values, criterion by criterion
  pub own_flags : (b : ℕ) (e : Example) → b < boundaries task → Contains task.examples e → accepted_flags profiles b e.grades ≡ listed (λ i. accepts_at task values i b e) (criteria task)
  own_flags b e lb among =
      let f : ℕ → Bool = λ i. accepts_at task values i b e in
      let sizes : length (accepted_flags profiles b e.grades) ≡ criteria task = length_flags profiles b e.grades (size_grades e among) ∙ size in
      ext_get_or false (accepted_flags profiles b e.grades) (listed f (criteria task)) (sizes ∙ sym (length-listed f (criteria task)))
      (λ i lt. let li : i < criteria task = omega (arith, lt, sizes) in flag_is i b e li lb among ∙ sym (listed_at f (criteria task) i false li))

  profile_ordered : (i : ℕ) → i < criteria task → are_ordered (direction_at task i) (listed (rebuilt_threshold task values i) (boundaries task)) ≡ true
  unfolding count_at
  profile_ordered i li =
      let f : ℕ → Option ℤ = rebuilt_threshold task values i in
      let many = length-listed f (boundaries task) in
      ordered_from (direction_at task i) (listed f (boundaries task)) (λ b lt.
      let lb : b + 1 < boundaries task = omega (arith, lt, many) in
      ap (λ t. is_step (direction_at task i) t (get_or (listed f (boundaries task)) (b + 1) None)) (listed_at f (boundaries task) b None (omega (arith, lb)))
      ∙ ap (is_step (direction_at task i) (f b)) (listed_at f (boundaries task) (b + 1) None lb)
      ∙ first_steps (direction_at task i) (λ k. values (accepted task i b k)) (λ k. values (accepted task i (b + 1) k)) 0 (ranked task i) (ranked_rises task i) (λ j below h.
      let at : 0 + j ≡ j = omega arith in
      subst (λ m. values (accepted task i b m) ≡ true) (sym at) (nested.lower i b j li lb below (subst (λ m. values (accepted task i (b + 1) m) ≡ true) at h))))

  pub rebuilt_ordered : (coalitions : List Coalitions) → HasOrderedThresholds (record { profiles = profiles; coalitions = coalitions })
  unfolding rebuilt_profiles
  rebuilt_ordered coalitions = listed_all (λ p. are_ordered p.direction p.thresholds ≡ true) (rebuilt_profile task values) (criteria task) profile_ordered

  -- what is accepted at a boundary is accepted at each lower one
  lowered : (i b n : ℕ) (e : Example) → i < criteria task → b + n < boundaries task → Contains task.examples e → accepts_at task values i (b + n) e ≡ true → accepts_at task values i b e ≡ true
  lowered i b zero e li lt among h = subst (λ m. accepts_at task values i m e ≡ true) (omega arith) h
  lowered i b (suc n) e li lt among h =
      let at : b + suc n ≡ b + n + 1 = omega arith in
      lowered i b n e li (omega (arith, lt)) among (nested.lower i (b + n) (rank task i e) li (omega (arith, lt)) (rank_is task i e among).0 (subst (λ m. accepts_at task values i m e ≡ true) at h))

  module _ (apart : SetsApart task values) (rs : List ℕ) (minimal : AreMinimal (own_sets (rebuilt_profiles task values) task.examples) rs) where
    abbrev own : Example → ℕ
    own e = accepted_set profiles (e.category - 1) e.grades

    own_among : (e : Example) → Contains task.examples e → 1 ≤ e.category → Contains (own_sets profiles task.examples) (own e)
    unfolding goods
    own_among e among le = map_has own (goods task) e (example_good task e among le)

    -- a root is the own set of a good example
    root_is : (root : ℕ) → Contains rs root → (g : Example) × Contains (goods task) g × (own g ≡ root)
    unfolding goods
    root_is root among = map_had own (goods task) root ((minimal.which root).0 among).0

    reached_own : (e : Example) → Contains task.examples e → 1 ≤ e.category → Reaches (rebuilt task values rs) e.category e.grades
    unfolding boundaries
    reached_own e among le =
        let below = All-contains (λ e. e.category < task.categories) task.examples e fits.categories among in
        let found = root_below (own_sets profiles task.examples) rs minimal (own e + 1) (own e) (omega arith) (own_among e among le) in
        (roots rs, has_replicated (boundaries task) (e.category - 1) (roots rs) (omega (arith, below, le)), root_suffices rs (own e) found.0 found.1 found.2)

    none_above : (e : Example) → Contains task.examples e → (h : ℕ) → e.category < h → Reaches (rebuilt task values rs) h e.grades → ⊥
    unfolding boundaries
    none_above e among h above (c, held, reached) =
        let is = replicated (boundaries task) (h - 1) (roots rs) c held in
        let lh : h - 1 < boundaries task = is.0 in
        let found = some_root rs (accepted_set profiles (h - 1) e.grades) (subst (λ c. is_reached profiles (h - 1) c e.grades ≡ true) is.1 reached) in
        let from = root_is found.0 found.1 in
        let g : Example = from.0 in
        let g_is = good_example task g from.1 in
        let g_below = All-contains (λ e. e.category < task.categories) task.examples g fits.categories g_is.0 in
        let g_le = g_is.1 in
        let inside : is_inside (own g) (accepted_set profiles (h - 1) e.grades) ≡ true = subst (λ root. is_inside root (accepted_set profiles (h - 1) e.grades) ≡ true) (sym from.2) found.2 in
        let differ = apart g e from.1 (example_bad task e among (omega (arith, above, lh))) in
        let i : ℕ = differ.0 in
        let li : i < criteria task = differ.1 in
        let own_flag : get_or (accepted_flags profiles (g.category - 1) g.grades) i false ≡ true = flag_is i (g.category - 1) g li (omega (arith, g_below, g_le)) g_is.0 ∙ differ.2 in
        let same : length (accepted_flags profiles (g.category - 1) g.grades) ≡ length (accepted_flags profiles (h - 1) e.grades) =
        length_flags profiles (g.category - 1) g.grades (size_grades g g_is.0) ∙ sym (length_flags profiles (h - 1) e.grades (size_grades e among)) in
        let flag = flags_from_inside (accepted_flags profiles (g.category - 1) g.grades) (accepted_flags profiles (h - 1) e.grades) same inside i own_flag in
        let high : accepts_at task values i (h - 1) e ≡ true = sym (flag_is i (h - 1) e li lh among) ∙ flag in
        let at : h - 1 ≡ e.category + (h - 1 - e.category) = omega (arith, above) in
        let low = lowered i e.category (h - 1 - e.category) e li (omega (arith, at, lh)) among (subst (λ m. accepts_at task values i m e ≡ true) at high) in
        false≢true (sym differ.3 ∙ low)

    restored : (e : Example) → Contains task.examples e → category (rebuilt task values rs) e.grades ≡ e.category
    restored e among = category-only (rebuilt task values rs) e.grades e.category (record {
      reached = elim (cases_lt e.category 1) [ inl none ↦ inl (omega (arith, none)) | inr some ↦ inr (some, reached_own e among some) ];
      greatest = none_above e among;
    })

    pub rebuilt_restores : Restores (rebuilt task values rs) task.examples
    rebuilt_restores = λ k d lt. restored (get_or task.examples k d) (Contains-get_or task.examples k d lt)

    pub rebuilt_form : IsRebuilt task.examples (rebuilt task values rs)
    rebuilt_form = record {
      observed = observed;
      minimal = (rs, ap (λ n. replicate n (roots rs)) (sym (length-replicate (boundaries task) (roots rs))), minimal);
    }
      where
        observed : (i : ℕ) (t : ℤ) → Contains (get_or profiles i no_profile).thresholds (Some t) → Contains (map (grade_on i) task.examples) t
        observed i t among = elim (cases_lt i (criteria task)) [
          | inl li ↦ (let here : Contains (listed (rebuilt_threshold task values i) (boundaries task)) (Some t) = subst (λ (p : Profile). Contains p.thresholds (Some t)) (profile_is i li) among in
              let lt : here.0 < boundaries task = (let below = here.1 in omega (arith, below, length-listed (rebuilt_threshold task values i) (boundaries task))) in
              let some : rebuilt_threshold task values i here.0 ≡ Some t = sym (listed_at (rebuilt_threshold task values i) (boundaries task) here.0 (Some t) lt) ∙ here.2 in
              ranked_observed task i t (first_among (direction_at task i) (λ k. values (accepted task i here.0 k)) 0 (ranked task i) t some))
          | inr past ↦ absurd (Contains-none (Some t) (subst (λ (p : Profile). Contains p.thresholds (Some t)) (get_or_past profiles i no_profile (omega (arith, past, size))) among))
        ]
