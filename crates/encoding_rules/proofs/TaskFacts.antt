-- The examples of a task, their grades and ranks.
use Rattle.std.proofs.Common.{◌≡◌, ℕ, ◌+◌, ◌<◌, ◌≤◌, ℤ, pos, Bool, true, false, cond, List, [], ◌∷◌, map, sym, ap, ◌∙◌, subst, arith, inl, inr}
use Rattle.std.specs.Prelude.{nat_le, nat_lt}
use Rattle.std.specs.List.{AllPairs, Contains, filter}
use Rattle.std.proofs.lemmas.Bool.{cases_Bool, leb-true, ltb-true, le-leb, lt-ltb}
use Rattle.std.proofs.lemmas.List.{length-map, get_or-map}
use Rattle.std.proofs.lemmas.List.Elements.{All-contains, All-filter, All-contains_itself, filter_passes}
use Rattle.literals_core.proofs.Members.{Contains-first, Contains-later, Contains-cases, Contains-none}
use Rattle.sorting_rule.specs.Preference.{is_as_good}
use Rattle.sorting_rule.specs.Examples.{Example}
use Rattle.encoding_rules.specs.Task.{Task, direction_at, goods, bads}
use Rattle.sorting_rule.specs.Rebuilt.{grade_on}
use Rattle.encoding_rules.specs.Ranks.{ranking, ranked, count_at, grade_at, rank}
use Rattle.encoding_rules.proofs.RankFacts.{ranking_rises, ranking_has, ranking_all, place_is}

module _ {X : Type 0} where
  pub filter_had : (p : X → Bool) (xs : List X) (x : X) → Contains (filter p xs) x → Contains xs x
  filter_had p xs x among = All-contains (Contains xs) (filter p xs) x (All-filter p (Contains xs) xs (All-contains_itself xs)) among

  pub filter_passed : (p : X → Bool) (xs : List X) (x : X) → Contains (filter p xs) x → p x ≡ true
  filter_passed p xs x among = All-contains (λ x. p x ≡ true) (filter p xs) x (filter_passes p xs) among

  filter_by : (p : X → Bool) (x y : X) (xs : List X) (b : Bool) → p y ≡ b → Contains (cond b (y ∷ filter p xs) (filter p xs)) x → Contains (filter p (y ∷ xs)) x
  filter_by p x y xs b e among = subst (λ c. Contains (cond c (y ∷ filter p xs) (filter p xs)) x) (sym e) among

  pub filter_has : (p : X → Bool) (xs : List X) (x : X) → Contains xs x → p x ≡ true → Contains (filter p xs) x
  filter_has p [] x among passes = absurd (Contains-none x among)
  filter_has p (y ∷ xs) x among passes = elim (Contains-cases y x xs among) [
    | inl same ↦ filter_by p x y xs true (ap p same ∙ passes) (subst (λ z. Contains (y ∷ filter p xs) z) same (Contains-first y (filter p xs)))
    | inr later ↦ (let rest = filter_has p xs x later passes in elim (cases_Bool (p y)) [
      | inl e ↦ filter_by p x y xs true e (Contains-later y x (filter p xs) rest)
      | inr e ↦ filter_by p x y xs false e rest
    ])
  ]

  pub map_has : {Y : Type 0} (f : X → Y) (xs : List X) (x : X) → Contains xs x → Contains (map f xs) (f x)
  map_has f xs x (k, lt, e) = (k, (let size = length-map xs f in omega (arith, lt, size)), get_or-map f xs k x (f x) lt ∙ ap f e)

  -- an element of the values is the value of an element
  pub map_had : {Y : Type 0} (f : X → Y) (xs : List X) (y : Y) → Contains (map f xs) y → (x : X) × Contains xs x × (f x ≡ y)
  map_had f [] y among = absurd (Contains-none y among)
  map_had f (x ∷ xs) y among = elim (Contains-cases (f x) y (map f xs) among) [
    | inl same ↦ (x, Contains-first x xs, same)
    | inr later ↦ (let rest = map_had f xs y later in (rest.0, Contains-later x rest.0 xs rest.1, rest.2))
  ]

module _ (task : Task) where
  pub good_example : (e : Example) → Contains (goods task) e → Contains task.examples e × (1 ≤ e.category)
  unfolding goods
  good_example e among = (filter_had (λ e. nat_le 1 e.category) task.examples e among, leb-true 1 e.category (filter_passed (λ e. nat_le 1 e.category) task.examples e among))

  pub example_good : (e : Example) → Contains task.examples e → 1 ≤ e.category → Contains (goods task) e
  unfolding goods
  example_good e among le = filter_has (λ e. nat_le 1 e.category) task.examples e among (le-leb 1 e.category le)

  pub bad_example : (e : Example) → Contains (bads task) e → Contains task.examples e × (e.category + 1 < task.categories)
  unfolding bads
  bad_example e among = (filter_had (λ e. nat_lt (e.category + 1) task.categories) task.examples e among, ltb-true (e.category + 1) task.categories (filter_passed (λ e. nat_lt (e.category + 1) task.categories) task.examples e among))

  pub example_bad : (e : Example) → Contains task.examples e → e.category + 1 < task.categories → Contains (bads task) e
  unfolding bads
  example_bad e among lt = filter_has (λ e. nat_lt (e.category + 1) task.categories) task.examples e among (lt-ltb (e.category + 1) task.categories lt)

  -- the rank of an example is the place of its grade
  pub rank_is : (i : ℕ) (e : Example) → Contains task.examples e → (rank task i e < count_at task i) × (grade_at task i (rank task i e) ≡ grade_on i e)
  unfolding rank count_at grade_at ranked
  rank_is i e among =
      let column : List ℤ = map (grade_on i) task.examples in
      place_is (direction_at task i) (ranking (direction_at task i) column) (grade_on i e) (ranking_rises (direction_at task i) column)
      (ranking_has (direction_at task i) (grade_on i e) column (map_has (grade_on i) task.examples e among))

  pub ranked_rises : (i : ℕ) → AllPairs (λ x y. is_as_good (direction_at task i) x y ≡ false) (ranked task i)
  unfolding ranked
  ranked_rises i = ranking_rises (direction_at task i) (map (grade_on i) task.examples)

  pub ranked_observed : (i : ℕ) (t : ℤ) → Contains (ranked task i) t → Contains (map (grade_on i) task.examples) t
  unfolding ranked
  ranked_observed i t among =
      let column : List ℤ = map (grade_on i) task.examples in
      All-contains (Contains column) (ranking (direction_at task i) column) t (ranking_all (direction_at task i) (Contains column) column (All-contains_itself column)) among

  pub grade_rises : (i j k : ℕ) → j < k → k < count_at task i → is_as_good (direction_at task i) (grade_at task i j) (grade_at task i k) ≡ false
  unfolding grade_at count_at
  grade_rises i j k lt below = ranked_rises i j k (pos 0) lt below
