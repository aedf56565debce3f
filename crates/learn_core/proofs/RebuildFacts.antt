-- What the parts of a rebuilt model are.
use Rattle.std.proofs.Common.{◌≡◌, ℕ, ◌+◌, ◌-◌, ◌*◌, ◌<◌, ◌≤◌, ℤ, Bool, Option, List, [], length, get_or, map, sym, ap, ◌∙◌, subst, arith}
use Rattle.std.specs.Prelude.{nat_le, replicate}
use Rattle.std.specs.List.{All, filter}
use Rattle.std.proofs.lemmas.Bool.{leb-true}
use Rattle.std.proofs.lemmas.List.{length-map, get_or-map, take_all}
use Rattle.std.proofs.lemmas.List.Elements.{Contains-get_or, All-weaker}
use Rattle.sorting_rule.specs.Coalition.{mask_of, roots}
use Rattle.sorting_rule.specs.Model.{Profile, Model, accepted_set}
use Rattle.sorting_rule.specs.Examples.{Example}
use Rattle.sorting_rule.specs.Rebuilt.{own_sets, AreMinimal, Learns}
use Rattle.problem_core.specs.Problem.{ProblemValue, IsProblem}
use Rattle.table_core.specs.Examples.{example_at, no_example}
use Rattle.encoding_rules.specs.Each.{each, listed}
use Rattle.encoding_rules.specs.Task.{Task, IsTask, criteria, boundaries, direction_at}
use Rattle.encoding_rules.specs.Ranks.{ranked, count_at, rank}
use Rattle.encoding_rules.specs.Unknowns.{counted, accepted}
use Rattle.encoding_rules.specs.Meaning.{IsNested, SetsApart, accepts_at}
use Rattle.encoding_rules.specs.Rebuilt.{first_passing, rebuilt_threshold, rebuilt_profile, rebuilt_profiles, rebuilt}
use Rattle.encoding_rules.proofs.EachFacts.{length-listed, listed_at, listed_same, each_filter, total_same}
use Rattle.encoding_rules.proofs.Restore.{own_flags}
use Rattle.encoding_rules.proofs.Laws.{learns}
use Rattle.ranks_core.specs.Ranks.{task_of, RanksValue, AreRanks}
use Rattle.search_core.specs.Values.{value_at}
use Rattle.accepted_core.specs.Sizes.{count_in}
use Rattle.accepted_core.proofs.NumbersFacts.{criteria_is, grades_many, places_many, count_is, place_is}
use Rattle.learn_core.specs.Numbers.{first_in, IsFirst, threshold_in, flag_in, own_in, RowsFit}
use Rattle.learn_core.specs.Satisfies.{SatisfiesOne}
use Rattle.learn_core.proofs.ModelFacts.{profile_of, model_of}
use Rattle.encoding_rules.proofs.EncodingFacts.{nested_either, apart_either}

module _ (problem : ProblemValue) (examples : List Example) (ranks : RanksValue) (are : AreRanks (task_of problem examples) ranks) where
  abbrev task : Task
  task = task_of problem examples

  grades_is : (i : ℕ) → i < criteria task → get_or ranks.grades i [] ≡ ranked task i
  grades_is i lt = ap (λ xs. get_or xs i []) are.grades_are ∙ listed_at (ranked task) (criteria task) i [] lt

  -- the ranks fit the first unknowns
  pub rows_fit : IsProblem problem → (firsts : List ℕ) → length firsts ≡ criteria task → All IsFirst firsts → (row : ℕ) → row < length examples → RowsFit firsts ranks row
  rows_fit is firsts many small row lr =
      let few = is.few_criteria in
      let n = criteria_is problem examples ranks are in
      let g = grades_many problem examples ranks are in
      let p = places_many problem examples ranks are in
      record {
        few = omega (arith, few, n, many);
        starts = small;
        grades = omega (arith, g, many);
        places = omega (arith, p, many);
        rows = λ i lt. (let e : length (get_or ranks.places i []) ≡ length examples = ap length (place_is problem examples ranks are i (omega (arith, lt, many))) ∙ length-map examples (rank task i) in omega (arith, e, lr));
      }

  pub categories_few : IsProblem problem → IsTask task → All (λ e. e.category ≤ 9) examples
  categories_few is fits = All-weaker (λ (e : Example). e.category < length problem.categories) (λ (e : Example). e.category ≤ 9)
      (λ e lt. let few = is.few_categories in omega (arith, lt, few)) examples fits.categories

  module _ (firsts : List ℕ) (is_firsts : firsts ≡ listed (first_in (boundaries task) ranks.grades) (criteria task)) (values : List Bool) where
    abbrev v : ℕ → Bool
    v = value_at values

    pub many : length firsts ≡ criteria task
    many = ap length is_firsts ∙ length-listed (first_in (boundaries task) ranks.grades) (criteria task)

    first_is : (i : ℕ) → i < criteria task → get_or firsts i 0 ≡ 1 + boundaries task * counted task i
    unfolding counted
    first_is i lt =
        ap (λ xs. get_or xs i 0) is_firsts ∙ listed_at (first_in (boundaries task) ranks.grades) (criteria task) i 0 lt
        ∙ ap (λ n. 1 + boundaries task * n) (total_same (count_in ranks.grades) (count_at task) i (λ k below. count_is problem examples ranks are k (omega (arith, below, lt))))

    threshold_is : (i b : ℕ) → i < criteria task → threshold_in values ranks.grades (get_or firsts i 0) i b ≡ rebuilt_threshold task v i b
    unfolding accepted
    threshold_is i b lt =
        ap (λ m. first_passing (λ k. v (m + b * count_in ranks.grades i + k)) 0 (get_or ranks.grades i [])) (first_is i lt)
        ∙ ap (λ c. first_passing (λ k. v (1 + boundaries task * counted task i + b * c + k)) 0 (get_or ranks.grades i [])) (count_is problem examples ranks are i lt)
        ∙ ap (first_passing (λ k. v (accepted task i b k)) 0) (grades_is i lt)

    row_is : (rows : List (List (Option ℤ))) → rows ≡ listed (λ i. listed (threshold_in values ranks.grades (get_or firsts i 0) i) (boundaries task)) (length firsts)
        → (i : ℕ) → i < criteria task → get_or rows i [] ≡ listed (rebuilt_threshold task v i) (boundaries task)
    row_is rows e i lt =
        ap (λ xs. get_or xs i []) e
        ∙ listed_at (λ i. listed (threshold_in values ranks.grades (get_or firsts i 0) i) (boundaries task)) (length firsts) i [] (omega (arith, lt, many))
        ∙ listed_same (threshold_in values ranks.grades (get_or firsts i 0) i) (rebuilt_threshold task v i) (boundaries task) (λ b lb. threshold_is i b lt)

    pub model_is : (rows : List (List (Option ℤ))) → rows ≡ listed (λ i. listed (threshold_in values ranks.grades (get_or firsts i 0) i) (boundaries task)) (length firsts)
        → (rs : List ℕ) → model_of task rows rs ≡ rebuilt task v rs
    unfolding rebuilt_profiles
    model_is rows e rs =
        let with_profiles : List Profile → Model = λ ps. record { profiles = ps; coalitions = replicate (boundaries task) (roots rs) } in
        ap with_profiles (listed_same (profile_of task rows) (rebuilt_profile task v) (criteria task) (λ i lt.
        (let with_row : List (Option ℤ) → Profile = λ ts. record { direction = direction_at task i; thresholds = ts } in ap with_row (row_is rows e i lt))))

    module _ (fits : IsTask task) (nested : IsNested task v) where
      flag_is : (place row i : ℕ) → row < length examples → i < criteria task → flag_in values firsts ranks place row i ≡ accepts_at task v i place (example_at examples row)
      unfolding accepted
      flag_is place row i lr li =
          let f = first_is i li in
          let m : place * count_in ranks.grades i ≡ place * count_at task i = ap (λ n. place * n) (count_is problem examples ranks are i li) in
          let r : get_or (get_or ranks.places i []) row 0 ≡ rank task i (example_at examples row) = ap (λ xs. get_or xs row 0) (place_is problem examples ranks are i li) ∙ get_or-map (rank task i) examples row no_example 0 lr in
          let at : get_or firsts i 0 + place * count_in ranks.grades i + get_or (get_or ranks.places i []) row 0 ≡ accepted task i place (rank task i (example_at examples row)) = omega (arith, f, m, r) in
          ap v at

      own_is : (row : ℕ) → row < length examples → 1 ≤ (example_at examples row).category
          → mask_of (listed (flag_in values firsts ranks ((example_at examples row).category - 1) row) (length firsts)) ≡ accepted_set (rebuilt_profiles task v) ((example_at examples row).category - 1) (example_at examples row).grades
      unfolding boundaries
      own_is row lr le =
          let e : Example = example_at examples row in
          let place : ℕ = e.category - 1 in
          let below : e.category < length problem.categories = fits.categories row no_example lr in
          ap (λ n. mask_of (listed (flag_in values firsts ranks place row) n)) many
          ∙ ap mask_of (listed_same (flag_in values firsts ranks place row) (λ i. accepts_at task v i place e) (criteria task) (λ i li. flag_is place row i lr li)
          ∙ sym (own_flags task fits v nested place e (omega (arith, below, le)) (Contains-get_or examples row no_example lr)))

      pub sets_are : (sets : List ℕ) → sets ≡ each (own_in values firsts ranks examples) (length examples) → sets ≡ own_sets (rebuilt_profiles task v) examples
      sets_are sets e =
          let own : Example → ℕ = λ e. accepted_set (rebuilt_profiles task v) (e.category - 1) e.grades in
          e ∙ each_filter (λ (e : Example). nat_le 1 e.category) own (λ row. mask_of (listed (flag_in values firsts ranks ((example_at examples row).category - 1) row) (length firsts))) examples no_example
          (λ row lr passes. own_is row lr (leb-true 1 (example_at examples row).category passes)) (length examples) (omega arith)
          ∙ ap (λ xs. map own (filter (λ (e : Example). nat_le 1 e.category) xs)) (take_all (length examples) examples (omega arith))

      pub rebuilt_learns : SetsApart task v → (rows : List (List (Option ℤ))) → rows ≡ listed (λ i. listed (threshold_in values ranks.grades (get_or firsts i 0) i) (boundaries task)) (length firsts)
          → (sets rs : List ℕ) → sets ≡ each (own_in values firsts ranks examples) (length examples) → AreMinimal sets rs → Learns examples (model_of task rows rs)
      rebuilt_learns apart rows is_rows sets rs is_sets minimal =
          subst (Learns examples) (sym (model_is rows is_rows rs))
          (learns task fits v nested apart rs (subst (λ xs. AreMinimal xs rs) (sets_are sets is_sets) minimal))

  -- the whole, from what the calls say
  pub rebuilt_from : (m n : ℕ) → m ≡ length problem.categories → n ≡ length problem.criteria → (firsts v1 v2 sets v3 rs : List ℕ) → firsts ≡ listed (first_in (m - 1) ranks.grades) n → v1 ≡ firsts → v2 ≡ firsts → (values : List Bool)
      → IsTask task → IsNested task (value_at values) → SetsApart task (value_at values) → (rows : List (List (Option ℤ)))
      → rows ≡ listed (λ i. listed (threshold_in values ranks.grades (get_or v1 i 0) i) (m - 1)) (length v1)
      → sets ≡ each (own_in values v2 ranks examples) (length examples) → v3 ≡ sets → AreMinimal v3 rs → Learns examples (model_of task rows rs)
  unfolding boundaries
  rebuilt_from m n is_m is_n firsts v1 v2 sets v3 rs is_firsts s1 s2 values fits nested apart rows is_rows is_sets s3 minimal =
      let all : firsts ≡ listed (first_in (length problem.categories - 1) ranks.grades) (criteria task) =
      is_firsts ∙ ap (λ k. listed (first_in (k - 1) ranks.grades) n) is_m ∙ ap (listed (first_in (length problem.categories - 1) ranks.grades)) (is_n ∙ sym (criteria_is problem examples ranks are)) in
      let rows_are : rows ≡ listed (λ i. listed (threshold_in values ranks.grades (get_or firsts i 0) i) (length problem.categories - 1)) (length firsts) =
      is_rows ∙ ap (λ w. listed (λ i. listed (threshold_in values ranks.grades (get_or w i 0) i) (m - 1)) (length w)) s1
      ∙ ap (λ k. listed (λ i. listed (threshold_in values ranks.grades (get_or firsts i 0) i) (k - 1)) (length firsts)) is_m in
      rebuilt_learns firsts all values fits nested apart rows rows_are sets rs (is_sets ∙ ap (λ w. each (own_in values w ranks examples) (length examples)) s2) (subst (λ xs. AreMinimal xs rs) s3 minimal)

  pub firsts_many : (m n : ℕ) → n ≡ length problem.criteria → (firsts v : List ℕ) → firsts ≡ listed (first_in (m - 1) ranks.grades) n → v ≡ firsts → length v ≡ criteria task
  firsts_many m n is_n firsts v e s = ap length (s ∙ e) ∙ length-listed (first_in (m - 1) ranks.grades) n ∙ is_n ∙ sym (criteria_is problem examples ranks are)

-- values of the formula of some encoding
pub one_nested : (task : Task) (values : ℕ → Bool) → SatisfiesOne task values → IsNested task values
one_nested task values one = nested_either one.0 task values one.1

pub one_apart : (task : Task) (values : ℕ → Bool) → SatisfiesOne task values → SetsApart task values
one_apart task values one = apart_either one.0 task values one.1
