-- The numbers made from ranks are those of the task.
use Rattle.std.proofs.Common.{◌≡◌, ℕ, ◌+◌, ◌-◌, ◌*◌, ◌<◌, ◌≤◌, List, [], length, get_or, map, refl, sym, ap, ◌∙◌, subst, arith, add-one, inl, inr}
use Rattle.std.specs.Prelude.{nat_le, nat_lt}
use Rattle.std.specs.List.{filter}
use Rattle.std.proofs.Math.Nat.{mul-add, mul-le-mul_left}
use Rattle.std.proofs.lemmas.Bool.{cases_lt, lt-ltb, le-ltb}
use Rattle.std.proofs.lemmas.List.{length-map, get_or-map, take_all}
use Rattle.std.proofs.lemmas.List.Elements.{filter_agree, Contains-get_or}
use Rattle.sorting_rule.specs.Examples.{Example}
use Rattle.problem_core.specs.Grade.{direction_of}
use Rattle.problem_core.specs.Problem.{ProblemValue}
use Rattle.problem_core.specs.declared.criterion.Criterion.{Criterion}
use Rattle.chain_core.specs.declared.literal.TheConstants.{GREATEST_VARIABLE}
use Rattle.table_core.specs.Examples.{example_at, no_example}
use Rattle.encoding_rules.specs.Each.{each, listed, total}
use Rattle.encoding_rules.specs.Task.{Task, criteria, boundaries, goods, bads}
use Rattle.encoding_rules.specs.Ranks.{ranked, count_at, rank}
use Rattle.encoding_rules.specs.Unknowns.{counted, accepted, accepted_count}
use Rattle.encoding_rules.specs.Separation.{steps}
use Rattle.encoding_rules.proofs.EachFacts.{length-listed, listed_at, listed_same, each_filter, total_before, total_same}
use Rattle.encoding_rules.proofs.RangeFacts.{accepted_range}
use Rattle.encoding_rules.proofs.TaskFacts.{rank_is}
use Rattle.ranks_core.specs.Ranks.{task_of, RanksValue, AreRanks}
use Rattle.ranks_core.proofs.RanksFacts as whole_ranks
use Rattle.accepted_core.specs.Sizes.{count_in}
use Rattle.accepted_core.specs.Rows.{unknown_at, row_at, good_rows_at, bad_rows_at, RowsFit}
use Rattle.accepted_core.specs.Numbers.{AreNumbers, good_row, bad_row}
use Rattle.accepted_core.specs.Small.{IsFew}

pub scaled_more : (b : ℕ) (f : ℕ → ℕ) (i : ℕ) → b * total f (i + 1) ≡ b * total f i + b * f i
scaled_more b f i = ap (λ n. b * total f n) (add-one i) ∙ mul-add b (total f i) (f i)

pub scaled_before : (b : ℕ) (f : ℕ → ℕ) (n i : ℕ) → i < n → b * total f i + b * f i ≤ b * total f n
scaled_before b f n i lt =
    let le = mul-le-mul_left b (total_before f n i lt) in
    let parts = mul-add b (total f i) (f i) in
    omega (arith, le, parts)

module _ (problem : ProblemValue) (examples : List Example) (ranks : RanksValue) (are : AreRanks (task_of problem examples) ranks) where
  abbrev task : Task
  task = task_of problem examples

  pub criteria_is : criteria task ≡ length problem.criteria
  unfolding criteria
  criteria_is = length-map problem.criteria (λ (c : Criterion). direction_of c.scale)

  pub boundaries_is : boundaries task ≡ length problem.categories - 1
  unfolding boundaries
  boundaries_is = refl

  pub grades_many : length ranks.grades ≡ criteria task
  grades_many = whole_ranks.grades_many task ranks are

  pub places_many : length ranks.places ≡ criteria task
  places_many = whole_ranks.places_many task ranks are

  pub count_is : (i : ℕ) → i < criteria task → count_in ranks.grades i ≡ count_at task i
  unfolding count_at
  count_is i lt = ap (λ xs. length (get_or xs i [])) are.grades_are ∙ ap length (listed_at (ranked task) (criteria task) i [] lt)

  pub place_is : (i : ℕ) → i < criteria task → get_or ranks.places i [] ≡ map (rank task i) examples
  place_is i lt = whole_ranks.place_is task ranks are i lt

  pub counts_are : (counts : List ℕ) → counts ≡ listed (count_in ranks.grades) (length problem.criteria) → counts ≡ listed (count_at task) (criteria task)
  counts_are counts e = e ∙ ap (listed (count_in ranks.grades)) (sym criteria_is) ∙ listed_same (count_in ranks.grades) (count_at task) (criteria task) count_is

  pub counted_is : total (count_in ranks.grades) (length problem.criteria) ≡ counted task (criteria task)
  unfolding counted
  counted_is = ap (total (count_in ranks.grades)) (sym criteria_is) ∙ total_same (count_in ranks.grades) (count_at task) (criteria task) count_is

  pub steps_is : total (λ i. count_in ranks.grades i - 1) (length problem.criteria) ≡ steps task
  unfolding steps
  steps_is = ap (total (λ i. count_in ranks.grades i - 1)) (sym criteria_is) ∙ total_same (λ i. count_in ranks.grades i - 1) (λ i. count_at task i - 1) (criteria task) (λ i lt. ap (λ n. n - 1) (count_is i lt))

  module _ (counts : List ℕ) (is_counts : counts ≡ listed (count_at task) (criteria task)) (firsts : List ℕ) (is_firsts : firsts ≡ listed (λ i. 1 + boundaries task * total (λ k. get_or counts k 0) i) (length counts)) where
    many : length counts ≡ criteria task
    many = ap length is_counts ∙ length-listed (count_at task) (criteria task)

    count_at_is : (i : ℕ) → i < criteria task → get_or counts i 0 ≡ count_at task i
    count_at_is i lt = ap (λ xs. get_or xs i 0) is_counts ∙ listed_at (count_at task) (criteria task) i 0 lt

    first_is : (i : ℕ) → i < criteria task → 1 + boundaries task * total (λ k. get_or counts k 0) i ≡ accepted task i 0 0
    unfolding accepted counted
    first_is i lt =
        let same : total (λ k. get_or counts k 0) i ≡ total (count_at task) i = total_same (λ k. get_or counts k 0) (count_at task) i (λ k below. count_at_is k (omega (arith, below, lt))) in
        let scaled : boundaries task * total (λ k. get_or counts k 0) i ≡ boundaries task * total (count_at task) i = ap (λ n. boundaries task * n) same in
        omega (arith, scaled)

    pub firsts_are : firsts ≡ listed (λ i. accepted task i 0 0) (criteria task)
    firsts_are = is_firsts ∙ ap (listed (λ i. 1 + boundaries task * total (λ k. get_or counts k 0) i)) many ∙ listed_same (λ i. 1 + boundaries task * total (λ k. get_or counts k 0) i) (λ i. accepted task i 0 0) (criteria task) first_is

    -- an unknown of an example
    unknown_is : (b row i : ℕ) → i < criteria task → row < length examples → unknown_at counts firsts ranks.places b row i ≡ accepted task i b (rank task i (example_at examples row))
    unfolding accepted
    unknown_is b row i li lr =
        let f : get_or firsts i 0 ≡ accepted task i 0 0 = ap (λ xs. get_or xs i 0) firsts_are ∙ listed_at (λ i. accepted task i 0 0) (criteria task) i 0 li in
        let m : b * get_or counts i 0 ≡ b * count_at task i = ap (λ n. b * n) (count_at_is i li) in
        let r : get_or (get_or ranks.places i []) row 0 ≡ rank task i (example_at examples row) = ap (λ xs. get_or xs row 0) (place_is i li) ∙ get_or-map (rank task i) examples row no_example 0 lr in
        omega (arith, f, m, r)

    pub rows_fit : IsFew task → RowsFit counts firsts ranks.places (boundaries task) examples
    unfolding boundaries
    rows_fit small = record {
      same = ap length firsts_are ∙ length-listed (λ i. accepted task i 0 0) (criteria task) ∙ sym many;
      few = (let x = small.few_criteria in omega (arith, many, x));
      all = (let p = places_many in omega (arith, many, p));
      rows = λ i lt. (let li : i < criteria task = omega (arith, lt, many) in ap length (place_is i li) ∙ length-map examples (rank task i));
      small = λ i b row lt lb lr.
          let li : i < criteria task = omega (arith, lt, many) in
          let e = example_at examples row in
          let in_range = accepted_range task i b (rank task i e) li lb (rank_is task i e (Contains-get_or examples row no_example lr)).0 in
          let high = in_range.1 in
          let at = unknown_is b row i li lr in
          let few = small.few_accepted in
          omega (arith, high, at, few);
      categories = λ row lr. (let below = small.fits.categories row no_example lr in omega (arith, below));
    }

    row_is : (b row : ℕ) → row < length examples → row_at counts firsts ranks.places b row ≡ listed (λ i. accepted task i b (rank task i (example_at examples row))) (criteria task)
    row_is b row lr = ap (listed (unknown_at counts firsts ranks.places b row)) many ∙ listed_same (unknown_at counts firsts ranks.places b row) (λ i. accepted task i b (rank task i (example_at examples row))) (criteria task) (λ i li. unknown_is b row i li lr)

    pub goods_are : each (good_rows_at counts firsts ranks.places examples) (length examples) ≡ map (good_row task) (goods task)
    unfolding goods
    goods_are =
        each_filter (λ (e : Example). nat_le 1 e.category) (good_row task) (λ row. row_at counts firsts ranks.places ((example_at examples row).category - 1) row) examples no_example
        (λ row lr passes. row_is ((example_at examples row).category - 1) row lr) (length examples) (omega arith)
        ∙ ap (λ xs. map (good_row task) (filter (λ (e : Example). nat_le 1 e.category) xs)) (take_all (length examples) examples (omega arith))

    bad_test : (e : Example) → nat_lt e.category (boundaries task) ≡ nat_lt (e.category + 1) task.categories
    unfolding boundaries
    bad_test e = elim (cases_lt (e.category + 1) task.categories) [
      | inl lt ↦ lt-ltb e.category (task.categories - 1) (omega (arith, lt)) ∙ sym (lt-ltb (e.category + 1) task.categories lt)
      | inr le ↦ le-ltb e.category (task.categories - 1) (omega (arith, le)) ∙ sym (le-ltb (e.category + 1) task.categories le)
    ]

    pub bads_are : each (bad_rows_at counts firsts ranks.places (boundaries task) examples) (length examples) ≡ map (bad_row task) (bads task)
    unfolding bads
    bads_are =
        each_filter (λ (e : Example). nat_lt e.category (boundaries task)) (bad_row task) (λ row. row_at counts firsts ranks.places (example_at examples row).category row) examples no_example
        (λ row lr passes. row_is (example_at examples row).category row lr) (length examples) (omega arith)
        ∙ ap (λ xs. map (bad_row task) (filter (λ (e : Example). nat_lt e.category (boundaries task)) xs)) (take_all (length examples) examples (omega arith))
        ∙ ap (map (bad_row task)) (filter_agree (λ (e : Example). nat_lt e.category (boundaries task)) (λ (e : Example). nat_lt (e.category + 1) task.categories) bad_test examples)

    -- how many unknowns say what is accepted
    pub accepted_is : boundaries task * total (count_in ranks.grades) (length problem.criteria) ≡ accepted_count task
    unfolding accepted_count
    accepted_is = ap (λ n. boundaries task * n) counted_is

    pub accepted_small : IsFew task → boundaries task * total (λ i. get_or counts i 0) (length counts) ≤ 33554576
    unfolding counted accepted_count
    accepted_small small =
        let same : total (λ i. get_or counts i 0) (length counts) ≡ total (count_at task) (criteria task) =
        ap (total (λ i. get_or counts i 0)) many ∙ total_same (λ i. get_or counts i 0) (count_at task) (criteria task) (λ k lt. count_at_is k lt) in
        let scaled : boundaries task * total (λ i. get_or counts i 0) (length counts) ≡ boundaries task * total (count_at task) (criteria task) = ap (λ n. boundaries task * n) same in
        let few = small.few_accepted in
        omega (arith, scaled, few)

-- what the parts of the numbers need, and what they are together
module _ (problem : ProblemValue) (examples : List Example) (ranks : RanksValue) (are : AreRanks (task_of problem examples) ranks) (small : IsFew (task_of problem examples))
    (n b : ℕ) (is_n : n ≡ length problem.criteria) (is_b : b ≡ length problem.categories - 1) where
  abbrev whole : Task
  whole = task_of problem examples

  pub few_criteria : n ≤ length ranks.grades
  few_criteria = let g = grades_many problem examples ranks are in let k = criteria_is problem examples ranks are in omega (arith, g, k, is_n)

  module _ (counts : List ℕ) (is_counts : counts ≡ listed (count_in ranks.grades) n) where
    listed_counts : counts ≡ listed (count_at whole) (criteria whole)
    listed_counts = counts_are problem examples ranks are counts (is_counts ∙ ap (listed (count_in ranks.grades)) is_n)

    abbrev first_at : ℕ → List ℕ → ℕ → ℕ
    first_at m v i = 1 + m * total (λ k. get_or v k 0) i

    pub room_for_firsts : (v : List ℕ) → v ≡ counts → b * total (λ i. get_or v i 0) (length v) ≤ GREATEST_VARIABLE
    unfolding boundaries
    room_for_firsts v seen =
        let le = accepted_small problem examples ranks are counts listed_counts (listed (first_at (boundaries whole) counts) (length counts)) refl small in
        subst (λ m. m * total (λ i. get_or v i 0) (length v) ≤ GREATEST_VARIABLE) (sym is_b)
        (subst (λ w. (length problem.categories - 1) * total (λ i. get_or w i 0) (length w) ≤ GREATEST_VARIABLE) (sym seen) (omega (arith, le)))

    module _ (firsts v : List ℕ) (seen : v ≡ counts) (is_firsts : firsts ≡ listed (first_at b v) (length v)) where
      listed_firsts : firsts ≡ listed (first_at (boundaries whole) counts) (length counts)
      unfolding boundaries
      listed_firsts = is_firsts ∙ ap (λ w. listed (first_at b w) (length w)) seen ∙ ap (λ m. listed (first_at m counts) (length counts)) is_b

      pub fit : (v1 v2 : List ℕ) → v1 ≡ counts → v2 ≡ firsts → RowsFit v1 v2 ranks.places b examples
      unfolding boundaries
      fit v1 v2 s1 s2 =
          subst (λ m. RowsFit v1 v2 ranks.places m examples) (sym is_b)
          (subst (λ w. RowsFit w v2 ranks.places (length problem.categories - 1) examples) (sym s1)
          (subst (λ w. RowsFit counts w ranks.places (length problem.categories - 1) examples) (sym s2) (rows_fit problem examples ranks are counts listed_counts firsts listed_firsts small)))

      pub made : (accepted : ℕ) (goods bads : List (List ℕ)) (v1 v2 v3 v4 : List ℕ) → v1 ≡ counts → v2 ≡ firsts → v3 ≡ counts → v4 ≡ firsts
          → accepted ≡ b * total (count_in ranks.grades) n → goods ≡ each (good_rows_at v1 v2 ranks.places examples) (length examples) → bads ≡ each (bad_rows_at v3 v4 ranks.places b examples) (length examples)
          → AreNumbers whole (record { boundaries = b; accepted = accepted; counts = counts; firsts = firsts; goods = goods; bads = bads })
      unfolding boundaries
      made accepted goods bads v1 v2 v3 v4 s1 s2 s3 s4 is_accepted is_goods is_bads = record {
        boundaries_are = is_b;
        accepted_are = is_accepted ∙ ap (λ m. m * total (count_in ranks.grades) n) is_b ∙ ap (λ k. (length problem.categories - 1) * total (count_in ranks.grades) k) is_n ∙ accepted_is problem examples ranks are counts listed_counts firsts listed_firsts;
        counts_are = listed_counts;
        firsts_are = firsts_are problem examples ranks are counts listed_counts firsts listed_firsts;
        goods_are = is_goods ∙ ap (λ w. each (good_rows_at w v2 ranks.places examples) (length examples)) s1 ∙ ap (λ w. each (good_rows_at counts w ranks.places examples) (length examples)) s2
            ∙ goods_are problem examples ranks are counts listed_counts firsts listed_firsts;
        bads_are = is_bads ∙ ap (λ w. each (bad_rows_at w v4 ranks.places b examples) (length examples)) s3 ∙ ap (λ w. each (bad_rows_at counts w ranks.places b examples) (length examples)) s4
            ∙ ap (λ m. each (bad_rows_at counts firsts ranks.places m examples) (length examples)) is_b
            ∙ bads_are problem examples ranks are counts listed_counts firsts listed_firsts;
      }

      pub accepted_fits : b * total (count_in ranks.grades) n ≤ 33554576
      unfolding boundaries
      accepted_fits =
          let le = accepted_small problem examples ranks are counts listed_counts firsts listed_firsts small in
          let x : b * total (count_in ranks.grades) n ≡ accepted_count whole = ap (λ m. m * total (count_in ranks.grades) n) is_b ∙ ap (λ k. (length problem.categories - 1) * total (count_in ranks.grades) k) is_n ∙ accepted_is problem examples ranks are counts listed_counts firsts listed_firsts in
          let few = small.few_accepted in
          omega (arith, x, few)
